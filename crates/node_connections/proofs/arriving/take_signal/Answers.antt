use Rattle.std.proofs.Common.{◌≡◌, true, false, cond, sym, ap, subst, ◌∙◌}
use Rattle.conn_core.specs.declared.arrival.Fault.{Fault}
use Rattle.dist_model.specs.Arrivals.{is_good}
use Rattle.dist_model.specs.Commands.{Accepts, Outcome}
use Rattle.dist_model.specs.Handshake.{fault}
use Rattle.dist_model.specs.Items.{Signalled, kind_of}
use Rattle.dist_model.specs.Taking.{take}
use Rattle.dist_model.specs.Work.{at_work}
use Rattle.dist_model.specs.declared.report.Answer.{Answer}
use Rattle.dist_model.specs.Names.{Name}
use Rattle.node_plan.proofs.PlanMakes.{makes_it}
use Rattle.node_plan.specs.Carried.{Carries}
use Rattle.node_plan.proofs.Outcomes.{planned_by}
use Rattle.node_plan.specs.Planned.{Plans}
use Rattle.node_plan.specs.Seen.{seen}
use Rattle.node_tables.specs.Standings.{side_of}
use Rattle.node_connections.proofs.arriving.take_signal.Goals as goal

pub returns-then-not-is_good : goal.returns-then-not-is_good
returns-then-not-is_good c =
    let m = seen c.args.node.now in
    let side = c.args.side.now in
    let item = Signalled c.args.signal.now false in
    let bad : is_good m (side_of side) item ≡ false = sym c.is_good.ensures ∙ c.if-not-is_good.true in
    let P : Outcome → Type 0 = λ o. Plans m o c.break_side.new.plan c.break_side.result in
    subst P (ap (λ b. cond b (Accepts (Answer.Took (kind_of item)) (take (side_of side).peer c.args.signal.now (at_work m)))
    (fault Fault.Forged side.trunk (side_of side) (at_work m))) (sym bad))
    (c.break_side.ensures m (at_work m) c.requires.there (makes_it c.args.plan.now m (at_work m) c.requires.carries))

pub returns : goal.returns
returns c =
    let m = seen c.args.node.now in
    let side = c.args.side.now in
    let item = Signalled c.args.signal.now false in
    let good : is_good m (side_of side) item ≡ true = sym c.is_good.ensures ∙ c.if-not-is_good.false in
    let work = take (side_of side).peer c.args.signal.now (at_work m) in
    rw c.or_refuse.ensures (planned_by m _ (Answer.Took (kind_of item)) work c.take.new.plan c.take.result
    (ap (λ b. cond b (Accepts (Answer.Took (kind_of item)) work) (fault Fault.Forged side.trunk (side_of side) (at_work m))) good)
    (c.take.ensures.told m ∙ c.answers.ensures.told m ∙ ap Answer.Took c.kind.ensures)
    (subst (λ (source : Name). Carries m (take source c.args.signal.now (at_work m)) c.take.new.plan c.take.result) c.atom.ensures
    (c.take.ensures.carries (at_work m) (c.answers.ensures.carries m (at_work m) c.requires.carries))))
