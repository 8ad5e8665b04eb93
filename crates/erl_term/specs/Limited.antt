-- What the reader from the left makes of the answer.
use Rattle.std.specs.Prelude.{ℕ, ◌-◌, List, length, Result, Ok, Err, nat_lt, if◌then◌else◌}
use Rattle.erl_term.specs.declared.error.TermError.{TermError}
use Rattle.erl_term.specs.declared.error.TermError.TheVariants.{Cut, TooLong}
use Rattle.erl_term.specs.Data.{Data}
use Rattle.erl_term.specs.Reading.{read_spelling}
use Rattle.erl_term.specs.Answer.{limit}

-- what is too long is no answer
abbrev pub limited : ℕ → Result (Data × List ℕ) TermError → Result (Data × ℕ) TermError
limited n (Ok x) = if nat_lt limit (n - length x.1) then Err TooLong else Ok (x.0, n - length x.1)
limited n (Err Cut) = if nat_lt limit n then Err TooLong else Err Cut
limited n (Err e) = Err e

unfoldable pub answer_at : List ℕ → Result (Data × ℕ) TermError
answer_at bytes = limited (length bytes) (read_spelling bytes)

-- the bytes that it takes, with no term
abbrev pub taken_of : Result (Data × ℕ) TermError → Result ℕ TermError
taken_of (Ok x) = Ok x.1
taken_of (Err e) = Err e
