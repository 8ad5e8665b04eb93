use Rattle.std.proofs.Common.{◌≡◌, ℕ, Some, []}
use Rattle.dist_model.specs.Items.{Item}
use Rattle.dist_model.specs.Work.{at_work}
use Rattle.erl_names.specs.declared.trunk.TrunkId.{TrunkId}
use Rattle.dist_model.specs.NodeEvents as event
use Rattle.dist_model.specs.NodeEvents.{at_node}
use Rattle.node_plan.specs.Seen.{seen}
use Rattle.node_plan.proofs.PlanMakes.{makes_it}
use Rattle.node_core.proofs.NodeKept.{comes_of_none, stays}
use Rattle.node_core.proofs.losing.plan_loss.Goals as goal

no_item : (trunk t : TrunkId) (item : Item) (word : ℕ) → event.Lose trunk ≡ event.Arrive t (Some item) word → ⊥
no_item trunk t item word h = cc

pub lose_if_up-made-requires-clause-told : goal.lose_if_up-made-requires-clause-told
lose_if_up-made-requires-clause-told c = c.requires.told (seen c.args.node.now)

pub lose_if_up-made-requires-clause-makes : goal.lose_if_up-made-requires-clause-makes
lose_if_up-made-requires-clause-makes c = let m = seen c.args.node.now in makes_it _ m (at_work m) (c.requires.carries m)

pub settle-requires-clause-stays : goal.settle-requires-clause-stays
settle-requires-clause-stays c =
    let node = c.args.node.now in
    let e = event.Lose c.args.trunk.now in
    stays [] (seen node) e _ _ node.steady node.counted
    (comes_of_none (seen node) e (no_item c.args.trunk.now)) c.lose_if_up-made.ensures

pub returns-clause-plan : goal.returns-clause-plan
returns-clause-plan c =
    λ names. c.settle.ensures.plan (at_node names (seen c.args.node.now) (event.Lose c.args.trunk.now)) c.lose_if_up-made.ensures
