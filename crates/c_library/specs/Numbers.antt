-- The answers to bytes as numbers.
use Rattle.std.specs.Prelude.{ℕ, Result, Ok, Err}
use Rattle.erl_term.specs.declared.error.TermError.{TermError}
use Rattle.erl_term.specs.Data.{Data}
use Rattle.erl_term.specs.ErrorNumbers.{error_number}

-- 0 and the length of the term, or the number of the fault and 0
abbrev pub term_numbers : Result (Data × ℕ) TermError → ℕ × ℕ
term_numbers (Ok x) = (0, x.1)
term_numbers (Err e) = (error_number e, 0)
