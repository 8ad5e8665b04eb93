use Rattle.std.proofs.Common.{◌≤◌, string_bytes, vec_len}
use Rattle.script_session.specs.Stage.{Stage as TheStage}
use Rattle.script_session.specs.Stands.{IsStage}
use Rattle.script_session.proofs.Turns.{Going}
use Rattle.script_session.proofs.stage.Stage.settle.Given as goal

abbrev pub invariant-loop-left : goal.invariant-loop-left
invariant-loop-left l = record {
  within : l.idle ≤ vec_len l.self.world.nodes;
  going : (it : TheStage) → IsStage l.fn.self it → Going 1000000 it l.left l.idle l.self (string_bytes l.fn.out) (string_bytes l.out);
}

abbrev pub decreases-loop-left : goal.decreases-loop-left
decreases-loop-left l = l.left
