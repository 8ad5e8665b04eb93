use Rattle.std.proofs.Common.{sym, ap, ◌∙◌}
use Rattle.std.specs.Option.{option_copied, option_map}
use Rattle.monitor_core.proofs.Held.{both_named, another_owner}
use Rattle.monitor_core.proofs.monitors.Monitors.holds.Goals as goal

pub returns-then-is_same-clause-answer : goal.returns-then-is_same-clause-answer
returns-then-is_same-clause-answer g c =
    let seen = ap (option_map g.M.Kept.seen_as) (sym (ap option_copied c.in-Some.is) ∙ c.get.ensures) in
    both_named _ (g.M.Kept.seen_as c.in-Some.held.now) c.args.watch.now c.owner.result.now seen c.owner.ensures c.target.result.now _ _ c.target.ensures
    c.if-is_same.true c.is_same.ensures c.is_same-then-is_same.ensures

pub returns-else-is_same-clause-answer : goal.returns-else-is_same-clause-answer
returns-else-is_same-clause-answer g c =
    let seen = ap (option_map g.M.Kept.seen_as) (sym (ap option_copied c.in-Some.is) ∙ c.get.ensures) in
    another_owner _ (g.M.Kept.seen_as c.in-Some.held.now) c.args.watch.now c.owner.result.now seen c.owner.ensures _
    c.if-is_same.false c.is_same.ensures
