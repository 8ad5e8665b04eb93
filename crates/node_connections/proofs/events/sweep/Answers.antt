use Rattle.std.proofs.Common.{◌≡◌, Some, rules, ap}
use Rattle.std.specs.FinMap as fm
use Rattle.dist_model.specs.Losses.{any_side, close_if_swept, least_record, sweep, sweep_by, sweep_record, swept_kind}
use Rattle.dist_model.specs.Sides.{is_losing}
use Rattle.dist_model.specs.Work.{at_work}
use Rattle.dist_model.specs.declared.report.Answer.{Answer}
use Rattle.node_plan.proofs.Outcomes.{lacks, made}
use Rattle.node_plan.specs.Seen.{seen}
use Rattle.node_tables.specs.Standings.{entry_of, side_of}
use Rattle.node_connections.proofs.SideLoses.{loses}
use Rattle.node_connections.proofs.events.sweep.Goals as goal

pub sweep_side-requires-clause-there : goal.sweep_side-requires-clause-there
sweep_side-requires-clause-there c =
    let m = seen c.args.node.now in
    let side = c.in-Some.side.now in
    let first : any_side is_losing (fm.entries m.sides) ≡ Some (entry_of side) = search rules in
    (loses m.sides side first).there

pub sweep_side-requires-clause-losing : goal.sweep_side-requires-clause-losing
sweep_side-requires-clause-losing c =
    let m = seen c.args.node.now in
    let side = c.in-Some.side.now in
    let first : any_side is_losing (fm.entries m.sides) ≡ Some (entry_of side) = search rules in
    (loses m.sides side first).losing

pub returns-in-Ok-clause-plans : goal.returns-in-Ok-clause-plans
returns-in-Ok-clause-plans c =
    let m = seen c.args.node.now in
    let side = c.in-Some.side.now in
    let first : any_side is_losing (fm.entries m.sides) ≡ Some (entry_of side) = search rules in
    let least = least_record side.peer m in
    let work = close_if_swept side.trunk (side_of side) (sweep_record least (at_work m)) in
    made m (sweep m) (Answer.Swept (swept_kind least)) work c.sweep_side.new.plan
    (ap (λ o. sweep_by o (at_work m)) first) c.in-Ok.ensures.told c.in-Ok.ensures.makes

pub returns-clause-plans : goal.returns-clause-plans
returns-clause-plans c =
    let m = seen c.args.node.now in
    let side = c.in-Some.side.now in
    let first : any_side is_losing (fm.entries m.sides) ≡ Some (entry_of side) = search rules in
    let least = least_record side.peer m in
    let work = close_if_swept side.trunk (side_of side) (sweep_record least (at_work m)) in
    lacks (sweep m) (Answer.Swept (swept_kind least)) work (ap (λ o. sweep_by o (at_work m)) first)
