use Rattle.std.proofs.Common.{◌≡◌, ℕ, Some, []}
use Rattle.dist_model.specs.Items.{Item}
use Rattle.erl_names.specs.declared.trunk.TrunkId.{TrunkId}
use Rattle.dist_model.specs.NodeEvents as event
use Rattle.dist_model.specs.NodeEvents.{at_node}
use Rattle.node_plan.specs.Seen.{seen}
use Rattle.node_core.proofs.NodeKept.{comes_of_none, stays}
use Rattle.node_core.proofs.own_list.plan_local.Goals as goal

no_item : (t : TrunkId) (item : Item) (word : ℕ) → event.Local ≡ event.Arrive t (Some item) word → ⊥
no_item t item word h = cc

pub take_first_if_up-made-requires-clause-taken : goal.take_first_if_up-made-requires-clause-taken
take_first_if_up-made-requires-clause-taken c = λ first rest h. c.requires.taken (seen c.args.node.now) first rest h

pub settle-requires-clause-stays : goal.settle-requires-clause-stays
settle-requires-clause-stays c =
    let node = c.args.node.now in
    stays [] (seen node) event.Local _ _ node.steady node.counted
    (comes_of_none (seen node) event.Local no_item) c.take_first_if_up-made.ensures

pub returns-clause-plan : goal.returns-clause-plan
returns-clause-plan c = λ names. c.settle.ensures.plan (at_node names (seen c.args.node.now) event.Local) c.take_first_if_up-made.ensures
