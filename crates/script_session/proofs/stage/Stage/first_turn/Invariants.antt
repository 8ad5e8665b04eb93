use Rattle.std.proofs.Common.{◌≡◌, drop, map}
use Rattle.node_core.specs.Model.{model_of}
use Rattle.script_session.specs.Stage.{Stage as TheStage}
use Rattle.script_session.specs.Stands.{IsStage}
use Rattle.script_session.specs.Turns.{first_turn}
use Rattle.script_session.proofs.stage.Stage.first_turn.Given as goal

-- none so far has a turn
abbrev pub invariant-loop-node : goal.invariant-loop-node
invariant-loop-node l = (it : TheStage) → IsStage l.self it →
    first_turn it.world it.word (map model_of l.nodes) ≡ first_turn it.world it.word (map model_of (drop l.node-index l.nodes))
