use Rattle.std.proofs.Common.{Bool, refl, subst, ◌∙◌, arith}
use Rattle.monitor_core.specs.Left.{IsFirstGone}
use Rattle.monitor_core.proofs.Left.{first_of, step_left, step_fewer, end_left}
use Rattle.monitor_core.proofs.monitors.Monitors.remove_of.Goals as goal

pub loop-smaller : goal.loop-smaller
loop-smaller g c =
    let process = c.args.process.now in
    let old = c.loop.self.monitors in
    let new = c.remove_first_of.new.self.monitors in
    let gone = subst (λ (b : Bool). IsFirstGone (first_of g.M.Kept.process_of process old) old b new) c.loop-test.true c.remove_first_of.ensures.monitors in
    step_fewer g.M.Kept.process_of process _ old new refl gone

pub loop-preserved : goal.loop-preserved
loop-preserved g c =
    let process = c.args.process.now in
    let old = c.loop.self.monitors in
    let new = c.remove_first_of.new.self.monitors in
    let gone = subst (λ (b : Bool). IsFirstGone (first_of g.M.Kept.process_of process old) old b new) c.loop-test.true c.remove_first_of.ensures.monitors in
    record {
      left = step_left g.M.Kept.process_of process _ old new refl gone ∙ c.loop.invariant.left;
      room = omega (arith, c.loop.invariant.room, c.remove_first_of.ensures.room);
    }

pub returns-clause-monitors : goal.returns-clause-monitors
returns-clause-monitors g c =
    let process = c.args.process.now in
    let old = c.loop.self.monitors in
    let new = c.remove_first_of.new.self.monitors in
    let gone = subst (λ (b : Bool). IsFirstGone (first_of g.M.Kept.process_of process old) old b new) c.loop-test.false c.remove_first_of.ensures.monitors in
    end_left g.M.Kept.process_of process _ old new refl gone ∙ c.loop.invariant.left
