-- The bytes of an atom between quotes, of which 1,020 are the most.
use Rattle.std.specs.Prelude.{◌≡◌, ℕ, ◌<◌, List, ◌++◌, length, Result, MatchResult}
use Rattle.script_terms.specs.declared.fault.TermFault.{TermFault}
use Rattle.script_terms.specs.declared.fault.TermFault.TheVariants.{BadTerm}

-- the piece was put behind the text, or there is no room for it
abbrev pub Pushes : List ℕ → List ℕ → List ℕ → Result (Unit {0}) TermFault → Type 0
Pushes old new piece result = MatchResult result (λ _. new ≡ old ++ piece) (λ e. (e ≡ BadTerm) × (1020 < length (old ++ piece)))
