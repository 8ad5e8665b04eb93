-- The length of a term is cut exactly where that is due.
use Rattle.std.proofs.Common.{◌≡◌, ℕ, List, Result, Ok, Err, IfOk, IfErr, subst}
use Rattle.erl_term.specs.declared.error.TermError.{TermError}
use Rattle.erl_term.specs.declared.error.TermError.TheVariants.{Cut}
use Rattle.erl_term.specs.Data.{Data}
use Rattle.erl_term.specs.Answer.{IsDue}

-- one answer is due to the bytes
abbrev pub HasOne : List ℕ → Type 0
HasOne bytes =
    (due : Result (Data × ℕ) TermError) × IsDue bytes due × ((other : Result (Data × ℕ) TermError) → IsDue bytes other → other ≡ due)

-- the length of a term is that answer, so bytes that end inside a term are answered by Cut
pub only_cut : (bytes : List ℕ) (answer : Result ℕ TermError) → HasOne bytes
    → IfOk answer (λ n. (t : Data) × IsDue bytes (Ok (t, n))) → IfErr answer (λ e. IsDue bytes (Err e))
    → IsDue bytes (Err Cut) → answer ≡ Err Cut
only_cut bytes (Ok n) (due, is, only) ok err cut =
    let one = only (Err Cut) cut in
    let other = only (Ok (ok.0, n)) ok.1 in cc
only_cut bytes (Err e) (due, is, only) ok err cut =
    let one = only (Err Cut) cut in
    let other = only (Err e) err in cc

pub due_cut : (bytes : List ℕ) (answer : Result ℕ TermError) → answer ≡ Err Cut → IfErr answer (λ e. IsDue bytes (Err e))
    → IsDue bytes (Err Cut)
due_cut bytes answer e due = subst (λ a. IfErr a (λ e. IsDue bytes (Err e))) e due
