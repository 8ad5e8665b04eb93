use Rattle.std.proofs.Common.{ℕ, List, length}
use Rattle.script_core.specs.Kept.{HasKept}
use Rattle.script_core.specs.Outcomes.{Position, IsAt}
use Rattle.script_core.proofs.KeptLemmas.{KeptUpTo}
use Rattle.script_core.proofs.ScriptLemmas.{TookUpTo}
use Rattle.script_threads.specs.Standing.{Known}
use Rattle.script_core.proofs.script.Script.take.Given as goal

abbrev pub invariant-loop-parts : goal.invariant-loop-parts
invariant-loop-parts g l =
    ((p : Position) → IsAt g.S.Lines.stands l.fn.self p
    → TookUpTo p l.bytes l.rest (IsAt g.S.Lines.stands l.self) (g.W.Write.contents l.fn.writer) (g.W.Write.contents l.writer))
    × ((known : Known) (first : ℕ) (before : List ℕ) → HasKept (g.S.Lines.keeps known) l.fn.self first before
    → KeptUpTo (g.S.Lines.keeps known) l.self first before l.bytes l.rest)

abbrev pub decreases-loop-parts : goal.decreases-loop-parts
decreases-loop-parts g l = length l.rest
