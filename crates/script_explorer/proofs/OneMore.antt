-- One outcome more, behind outcomes that are numbered.
use Rattle.std.proofs.Common.{◌≡◌, ℕ, ◌+◌, List, [], ◌∷◌, ◌++◌, arith, length, ◌∙◌}
use Rattle.script_explorer.specs.Printed.{AreNumbered, Shown}

pub numbered_more : (seed first all : ℕ) (shown : List (Shown seed)) (it : Shown seed) → AreNumbered first all shown
    → it.number ≡ first + length shown → it.all ≡ all → AreNumbered first all (shown ++ it ∷ [])
numbered_more seed first all [] it are number same = (number ∙ omega arith, same, tt)
numbered_more seed first all (one ∷ shown) it are number same =
    (are.0, are.1, numbered_more seed (first + 1) all shown it are.2 (number ∙ omega arith) same)
