use Rattle.std.proofs.Common.{ap, refl, ◌∙◌}
use Rattle.dist_model.specs.World as model
use Rattle.dist_model.specs.declared.command.Command.{Command}
use Rattle.dist_model.specs.Names.{Name}
use Rattle.node_core.specs.declared.node_event.NodeEvent.{NodeEvent}
use Rattle.script_lines.specs.Said.{said}
use Rattle.script_lines.specs.declared.line.Line.TheVariants as line
use Rattle.script_session.proofs.LineEvents.{at_just, just_of}
use Rattle.script_session.specs.Session.{moves}
use Rattle.script_session.proofs.stage.Stage.event_of.Goals as goal

pub returns-in-Spawn : goal.returns-in-Spawn
returns-in-Spawn c = λ it is.
    let node = c.in-Spawn.node.now in
    at_just c.at.result node (NodeEvent.Call Command.Spawn) (moves (said c.args.line)) it c.at.ensures
    (just_of c.args.line (line.Spawn c.in-Spawn.node c.in-Spawn.name) it (model.Call node Command.Spawn) c.in-Spawn.is
    (record { own = model.Call node Command.Spawn; happens = refl; is = refl }))

pub returns-in_ok-peer-in-Dial : goal.returns-in_ok-peer-in-Dial
returns-in_ok-peer-in-Dial c = λ it is.
    let node = c.in-Dial.node.now in
    let peer = c.in_ok-peer-in-Dial.peer in
    let word = c.args.self.now.word in
    at_just c.at-in-Dial.result node (NodeEvent.Dial peer word) (moves (said c.args.line)) it c.at-in-Dial.ensures
    (just_of c.args.line (line.Dial c.in-Dial.node c.in-Dial.peer) it (model.Dial node peer word) c.in-Dial.is
    (record {
      own = model.Dial node c.in-Dial.peer.now it.word;
      happens = refl;
      is = ap (λ (name : Name). model.Dial node name word) c.in_ok-peer-in-Dial.ensures ∙ ap (model.Dial node c.in-Dial.peer.now) is.word;
    }))

pub returns-in-Stop : goal.returns-in-Stop
returns-in-Stop c = λ it is.
    let node = c.in-Stop.node.now in
    at_just c.at-in-Stop.result node NodeEvent.Stop (moves (said c.args.line)) it c.at-in-Stop.ensures
    (just_of c.args.line (line.Stop c.in-Stop.node) it (model.Stop node) c.in-Stop.is (record { own = model.Stop node; happens = refl; is = refl }))

pub returns-in-Start : goal.returns-in-Start
returns-in-Start c = λ it is.
    let node = c.in-Start.node.now in
    at_just c.at-in-Start.result node NodeEvent.Start (moves (said c.args.line)) it c.at-in-Start.ensures
    (just_of c.args.line (line.Start c.in-Start.node) it (model.Start node) c.in-Start.is (record { own = model.Start node; happens = refl; is = refl }))

pub returns-in-Local : goal.returns-in-Local
returns-in-Local c = λ it is.
    let node = c.in-Local.node.now in
    at_just c.at-in-Local.result node NodeEvent.Local (moves (said c.args.line)) it c.at-in-Local.ensures
    (just_of c.args.line (line.Local c.in-Local.node) it (model.Local node) c.in-Local.is (record { own = model.Local node; happens = refl; is = refl }))

pub returns-in-Sweep : goal.returns-in-Sweep
returns-in-Sweep c = λ it is.
    let node = c.in-Sweep.node.now in
    at_just c.at-in-Sweep.result node NodeEvent.Sweep (moves (said c.args.line)) it c.at-in-Sweep.ensures
    (just_of c.args.line (line.Sweep c.in-Sweep.node) it (model.Sweep node) c.in-Sweep.is (record { own = model.Sweep node; happens = refl; is = refl }))
