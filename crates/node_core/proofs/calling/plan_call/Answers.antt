use Rattle.std.proofs.Common.{◌≡◌, ℕ, Some, []}
use Rattle.dist_model.specs.Items.{Item}
use Rattle.dist_model.specs.declared.command.Command.{Command}
use Rattle.erl_names.specs.declared.trunk.TrunkId.{TrunkId}
use Rattle.dist_model.specs.NodeEvents as event
use Rattle.dist_model.specs.NodeEvents.{at_node}
use Rattle.node_plan.specs.Seen.{seen}
use Rattle.node_core.proofs.NodeKept.{comes_of_none, stays}
use Rattle.node_core.proofs.calling.plan_call.Goals as goal

no_item : (command : Command) (t : TrunkId) (item : Item) (word : ℕ) → event.Call command ≡ event.Arrive t (Some item) word → ⊥
no_item command t item word h = cc

pub obey_if_up-made-requires-clause-told : goal.obey_if_up-made-requires-clause-told
obey_if_up-made-requires-clause-told c = c.requires.told (seen c.args.node.now)

pub obey_if_up-made-requires-clause-carries : goal.obey_if_up-made-requires-clause-carries
obey_if_up-made-requires-clause-carries c = c.requires.carries (seen c.args.node.now)

pub settle-requires-clause-stays : goal.settle-requires-clause-stays
settle-requires-clause-stays c =
    let node = c.args.node.now in
    let e = event.Call c.args.command in
    stays [] (seen node) e _ _ node.steady node.counted (comes_of_none (seen node) e (no_item c.args.command)) c.obey_if_up-made.ensures

pub returns-clause-plan : goal.returns-clause-plan
returns-clause-plan c =
    λ names. c.settle.ensures.plan (at_node names (seen c.args.node.now) (event.Call c.args.command)) c.obey_if_up-made.ensures
