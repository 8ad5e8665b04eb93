use Rattle.std.proofs.Common.{◌≡◌, Ok, Result, ap, refl, rules}
use Rattle.dist_model.specs.World as model
use Rattle.erl_names.specs.declared.trunk.TrunkId.{TrunkId}
use Rattle.erl_term.specs.declared.refusal.Refusal.{Refusal}
use Rattle.node_core.specs.declared.node_event.NodeEvent.{NodeEvent}
use Rattle.script_lines.specs.Said.{trunk_of}
use Rattle.script_session.proofs.LineEvents.{at_just}
use Rattle.script_session.specs.Connections.{loses_on, loses_at, leading}
use Rattle.script_session.proofs.stage.Stage.loss.Goals as goal

pub returns-in-Ok : goal.returns-in-Ok
returns-in-Ok c = λ it is.
    let node = c.args.node.now in
    let peer = c.args.peer.now in
    let led = c.leading.ensures it is in
    let leads : leading it.world node peer (trunk_of c.args.connection) Refusal.NotLive ≡ Ok c.in-Ok.trunk = search rules in
    at_just c.at.result node (NodeEvent.Lose c.in-Ok.trunk) (loses_on (trunk_of c.args.connection) node peer) it c.at.ensures
    (record {
      own = model.Lose c.in-Ok.trunk node;
      happens = ap (λ (r : Result TrunkId Refusal). loses_at r node it) leads;
      is = refl;
    })
