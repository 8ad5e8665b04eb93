use Rattle.std.proofs.Common.{◌≡◌, None, ap, subst, rules}
use Rattle.conn_core.specs.Happenings.{unheard}
use Rattle.conn_core.specs.declared.side.Side.{Side}
use Rattle.dist_model.specs.Arrivals.{arrive_fresh}
use Rattle.dist_model.specs.Work.{at_work}
use Rattle.erl_names.specs.declared.trunk.TrunkId.{TrunkId}
use Rattle.dist_model.proofs.KeepTaken.{fresh_taken}
use Rattle.node_connections.proofs.Accepted.{wants_memory}
use Rattle.node_plan.specs.Planned.{Plans}
use Rattle.node_plan.specs.Seen.{seen}
use Rattle.node_connections.proofs.opening.spoil_first.Goals as goal

pub returns-in_default : goal.returns-in_default
returns-in_default c = λ word. wants_memory _ (fresh_taken None c.args.trunk.now word (at_work (seen c.args.node.now)))

pub returns : goal.returns
returns c = λ word.
    let m = seen c.args.node.now in
    let same : c.in-Ok.side ≡ unheard c.args.trunk.now = search rules in
    let P : TrunkId → Type 0 = λ t. Plans m (arrive_fresh None t word (at_work m)) c.open-planned.new.plan c.open-planned.result in
    subst P (ap (λ (s : Side). s.trunk) same) (c.open-planned.ensures.broken word c.hear_nothing-arrival.ensures)
