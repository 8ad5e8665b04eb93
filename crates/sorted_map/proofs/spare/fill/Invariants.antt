use Rattle.std.proofs.Common.{◌≤◌, vec_len}
use Rattle.sorted_map.proofs.spare.fill.Given as goal

abbrev pub invariant-loop : goal.invariant-loop
invariant-loop g l = (l.had ≤ vec_len l.spare) × (l.counter ≤ vec_len l.spare)
