use Rattle.std.proofs.Common.{◌≡◌, take}
use Rattle.node_history.proofs.answers.are_same_entries.Given as goal

abbrev pub invariant-loop-place : goal.invariant-loop-place
invariant-loop-place l = take l.place l.a ≡ take l.place l.b
