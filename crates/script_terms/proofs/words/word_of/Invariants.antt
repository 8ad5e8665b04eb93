use Rattle.std.proofs.Common.{◌≡◌, ℕ, ◌<◌, true, get_or}
use Rattle.script_terms.specs.Words.{is_of_kind}
use Rattle.script_terms.proofs.words.word_of.Given as goal

abbrev pub invariant-loop-i : goal.invariant-loop-i
invariant-loop-i l = (k : ℕ) → k < l.i → is_of_kind l.kind (get_or l.bytes k 0) ≡ true
