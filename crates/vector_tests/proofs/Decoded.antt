-- The answer to a term, from what was decoded.
use Rattle.std.proofs.Common.{◌≡◌, ℕ, List, Result, Ok, Err, subst, ap, ◌∙◌, take}
use Rattle.erl_term.specs.declared.error.TermError.{TermError}
use Rattle.erl_term.specs.Data.{Data}
use Rattle.erl_term.specs.Answer.{IsDue}
use Rattle.erl_term.specs.Canonical.{canonical}
use Rattle.script_terms.specs.Printing.{term_text}
use Rattle.vector_tests.specs.Vectors.{IsReading, IsTermAnswer}

-- nothing else is due to the bytes
abbrev pub IsOnly : List ℕ → Result (Data × ℕ) TermError → Type 0
IsOnly bytes answer = (due : Result (Data × ℕ) TermError) → IsDue bytes due → due ≡ answer

pub term_read : (bytes front text : List ℕ) (x : Data × ℕ) → IsOnly bytes (Ok x) → front ≡ take x.1 bytes
    → IsReading front (canonical x.0) (term_text x.0) text → IsTermAnswer bytes text
term_read bytes front text x only is reading t n due =
    let e = only (Ok (t, n)) due in
    let same : x ≡ (t, n) = cc in
    let at : front ≡ take n bytes = is ∙ ap (λ y. take y.1 bytes) same in
    subst (λ y. IsReading (take n bytes) (canonical y.0) (term_text y.0) text) same
    (subst (λ f. IsReading f (canonical x.0) (term_text x.0) text) at reading)

-- where an error is due no term is
pub no_term : (bytes text : List ℕ) (error : TermError) → IsOnly bytes (Err error) → IsTermAnswer bytes text
no_term bytes text error only t n due = let e = only (Ok (t, n)) due in cc
