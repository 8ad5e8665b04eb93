use Rattle.std.proofs.Common.{add-zero, ap, Ok, subst, ◌∙◌}
use Rattle.node_lock.proofs.OutletMoves.{both_keep, fed_after, nothing_keeps}
use Rattle.node_lock.proofs.PutAtOutlet.{puts_both, puts_none}
use Rattle.node_lock.specs.Passing.{Puts}
use Rattle.node_lock.proofs.outlet.Outlet.flush.Goals as goal

pub returns-in-Ok-false-clause-feeds : goal.returns-in-Ok-false-clause-feeds
returns-in-Ok-false-clause-feeds g c =
    both_keep c.args.entries.now c.args.self.now c.loop-count.self c.put_one.new.self c.loop-count.invariant.1 c.put_one.ensures.feeds

pub returns-then-count-eq0-clause-feeds : goal.returns-then-count-eq0-clause-feeds
returns-then-count-eq0-clause-feeds g c =
    both_keep c.args.entries.now c.args.self.now c.loop-count.self c.put_one.new.self c.loop-count.invariant.1 c.put_one.ensures.feeds

pub returns-in-Err-clause-feeds : goal.returns-in-Err-clause-feeds
returns-in-Err-clause-feeds g c =
    both_keep c.args.entries.now c.args.self.now c.loop-count.self c.put_one.new.self c.loop-count.invariant.1 c.put_one.ensures.feeds

pub loop-count-preserved : goal.loop-count-preserved
loop-count-preserved g c = (
  fed_after c.args.entries.now c.loop-count.self c.put_one.new.self c.loop-count.invariant.0 c.put_one.ensures.feeds,
  both_keep c.args.entries.now c.args.self.now c.loop-count.self c.put_one.new.self c.loop-count.invariant.1 c.put_one.ensures.feeds,
  puts_both c.args.entries.now c.args.self.now c.loop-count.self c.put_one.new.self c.loop-count.count 1 c.loop-count.invariant.2
      (c.put_one.ensures.puts (c.in-Ok-true.is ∙ ap (λ b. Ok b) c.in-Ok-true.field-0-test)),
)

pub loop-count-init : goal.loop-count-init
loop-count-init g c = (c.requires, nothing_keeps c.args.entries.now c.args.self.now, puts_none c.args.entries.now c.args.self.now)

pub returns-in-Err-clause-puts : goal.returns-in-Err-clause-puts
returns-in-Err-clause-puts g c =
    subst (Puts c.args.entries.now c.args.self.now c.put_one.new.self) (add-zero c.loop-count.count)
    (puts_both c.args.entries.now c.args.self.now c.loop-count.self c.put_one.new.self c.loop-count.count 0
    c.loop-count.invariant.2 c.in-Err.ensures.err)
