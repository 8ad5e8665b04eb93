use Rattle.std.proofs.Common.{◌≡◌, Ok, Result, ap, rules, subst}
use Rattle.dist_model.specs.Names.{Name}
use Rattle.dist_model.specs.World as model
use Rattle.erl_names.specs.declared.trunk.TrunkId.{TrunkId}
use Rattle.erl_term.specs.declared.refusal.Refusal.{Refusal}
use Rattle.node_core.specs.NodeEvents.{event_at}
use Rattle.script_lines.specs.Said.{trunk_of}
use Rattle.script_session.proofs.LineEvents.{at_just}
use Rattle.script_session.specs.Connections.{delivers_on, arrives, leading}
use Rattle.script_session.specs.Events.{normal}
use Rattle.script_session.proofs.stage.Stage.delivery.Goals as goal

pub returns-in-Ok : goal.returns-in-Ok
returns-in-Ok c = λ it is.
    let node = c.args.node.now in
    let peer = c.args.peer.now in
    let led = c.leading.ensures it is in
    let leads : leading it.world node peer (trunk_of c.args.connection) Refusal.NothingThere ≡ Ok c.in-Ok.trunk = search rules in
    let name : c.atom.result.now ≡ node = search rules in
    let comes : event_at node c.arrival.result ≡ normal it.world (model.Arrive c.in-Ok.trunk node it.word) =
    subst (λ (n : Name). event_at n c.arrival.result ≡ normal it.world (model.Arrive c.in-Ok.trunk n it.word)) name (c.arrival.ensures it is) in
    at_just c.at.result node c.arrival.result (delivers_on (trunk_of c.args.connection) node peer) it c.at.ensures
    (record {
      own = model.Arrive c.in-Ok.trunk node it.word;
      happens = ap (λ (r : Result TrunkId Refusal). arrives r node it) leads;
      is = comes;
    })
