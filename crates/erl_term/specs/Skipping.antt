-- What a pass that keeps no value answers.
use Rattle.std.specs.Prelude.{◌≡◌, List, ℕ, Result, Ok, Err}
use Rattle.std.specs.Borrow.{Bor}
use Rattle.erl_term.specs.declared.error.TermError.{TermError}
use Rattle.erl_term.specs.Reading.{Read}

-- the bytes after the value
abbrev pub rest_of : {A : Type 0} → Read A → Result (List ℕ) TermError
rest_of (Ok x) = Ok x.1
rest_of (Err e) = Err e

abbrev pub now_of : Result (Bor (List ℕ)) TermError → Result (List ℕ) TermError
now_of (Ok rest) = Ok rest.now
now_of (Err e) = Err e

abbrev pub Skips : {A : Type 0} → Read A → Result (Bor (List ℕ)) TermError → Type 0
Skips read result = rest_of read ≡ now_of result
