use Rattle.std.proofs.Common.{◌≡◌, ◌++◌, List, length}
use Rattle.script_explorer.specs.Printed.{AreNumbered, Shown, shown_texts}
use Rattle.script_explorer.proofs.explored.put_outcomes.Given as goal

abbrev pub invariant-loop-place : goal.invariant-loop-place
invariant-loop-place l =
    (shown : List (Shown l.seed))
    × (length shown ≡ l.place)
    × AreNumbered 1 (length l.scripts) shown
    × (l.out.items ≡ l.fn.out.items ++ shown_texts shown)
