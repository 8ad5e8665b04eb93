use Rattle.std.proofs.Common.{ℕ, ◌<◌}
use Rattle.run_diagrams.specs.Numbers.{IsNumber, way_of}
use Rattle.run_diagrams.proofs.queues.place_of.Given as goal

abbrev pub invariant-loop-place : goal.invariant-loop-place
invariant-loop-place l = (k : ℕ) → k < l.place → ¬ (IsNumber l.ways k (way_of l.trunk l.to))
