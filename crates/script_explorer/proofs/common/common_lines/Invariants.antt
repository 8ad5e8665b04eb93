use Rattle.std.proofs.Common.{◌≡◌, ◌<◌, ℕ, List, true}
use Rattle.script_explorer.specs.Common.{all_have, has_line}
use Rattle.script_explorer.proofs.common.common_lines.Given as goal

abbrev pub invariant-loop-place : goal.invariant-loop-place
invariant-loop-place l =
    (place : ℕ) (line : List ℕ) → place < l.place → has_line place line l.first ≡ true → all_have place line l.others ≡ true
