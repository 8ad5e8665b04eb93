-- One answer is due, so all that are due have the same numbers.
use Rattle.std.proofs.Common.{◌≡◌, ℕ, List, Result, ap, sym, ◌∙◌}
use Rattle.erl_term.specs.declared.error.TermError.{TermError}
use Rattle.erl_term.specs.Data.{Data}
use Rattle.erl_term.specs.Answer.{IsDue}
use Rattle.c_library.specs.Numbers.{term_numbers}

abbrev pub HasOne : List ℕ → Type 0
HasOne bytes =
    (due : Result (Data × ℕ) TermError) × IsDue bytes due × ((other : Result (Data × ℕ) TermError) → IsDue bytes other → other ≡ due)

pub same_numbers : (bytes : List ℕ) (known due : Result (Data × ℕ) TermError) → HasOne bytes → IsDue bytes known → IsDue bytes due
    → term_numbers due ≡ term_numbers known
same_numbers bytes known due (one, is, only) k d = ap term_numbers (only due d ∙ sym (only known k))
