use Rattle.std.proofs.Common.{Option, refl, sym, subst, ◌∙◌}
use Rattle.std.specs.Option.{is_some}
use Rattle.dist_model.proofs.Seen.{close_if}
use Rattle.dist_model.specs.Losses.{Record, close_side}
use Rattle.dist_model.specs.Work.{at_work}
use Rattle.node_plan.proofs.PlanMakes.{makes_it}
use Rattle.node_plan.specs.Carried.{Makes}
use Rattle.node_plan.specs.Seen.{seen}
use Rattle.node_tables.specs.Standings.{side_of}
use Rattle.node_connections.proofs.events.close_swept.Goals as goal

pub returns-clause-makes : goal.returns-clause-makes
returns-clause-makes c =
    let m = seen c.args.node.now in
    let side = c.args.side.now in
    let h : Makes c.close_side.new.plan m (close_side side.trunk (side_of side) (at_work m)) =
    c.in_ok-close_side.ensures.makes (at_work m) refl
    (c.answers.ensures.makes m (at_work m) (makes_it c.args.plan.now m (at_work m) c.requires.carries)) in
    let P : Option Record → Type 0 = λ o. Makes c.close_side.new.plan m (close_if (is_some o) side.trunk (side_of side) (at_work m)) in
    subst P (sym c.requires.none) h

pub returns-clause-told : goal.returns-clause-told
returns-clause-told c = let m = seen c.args.node.now in c.in_ok-close_side.ensures.told m ∙ c.answers.ensures.told m

pub returns-clause-ahead : goal.returns-clause-ahead
returns-clause-ahead c = c.new.ensures.ahead (seen c.args.node.now)
