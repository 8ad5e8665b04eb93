use Rattle.std.proofs.Common.{◌≡◌, take}
use Rattle.node_history.proofs.reports.are_same_effects.Given as goal

abbrev pub invariant-loop-place : goal.invariant-loop-place
invariant-loop-place l = take l.place l.a ≡ take l.place l.b
