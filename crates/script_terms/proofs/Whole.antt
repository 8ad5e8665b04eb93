-- The answer to a text, from the term at its front.
use Rattle.std.proofs.Common.{◌≡◌, ℕ, Bool, true, false, leb, cond, List, [], ◌∷◌, Result, Ok, Err, refl, ap, ◌∙◌}
use Rattle.erl_term.specs.Reading.{◌>>=◌}
use Rattle.erl_term.specs.Data.{Data}
use Rattle.erl_term.specs.Canonical.{levels_of}
use Rattle.script_terms.specs.declared.fault.TermFault.{TermFault}
use Rattle.script_terms.specs.declared.fault.TermFault.TheVariants.{BadTerm}
use Rattle.script_terms.specs.declared.fault.ReadError.{ReadError}
use Rattle.script_terms.specs.declared.fault.ReadError.TheVariants.{Fault, OutOfMemory}
use Rattle.script_terms.specs.Binding.{Look}
use Rattle.script_terms.specs.Reading.{Read, term_at, whole, term_of}
use Rattle.script_terms.specs.Checking.{Fails, IsRefused, checked}

some_term : (r : Result Data TermFault) → Ok tt ≡ checked r → (t : Data) × (r ≡ Ok t)
some_term (Ok t) h = (t, refl)
some_term (Err e) h = absurd cc

pub refused : (look : Look) (text : List ℕ) (e : ReadError) → Ok tt ≡ checked (term_of look text)
    → Fails e (term_at look 64 text) → IsRefused e (term_of look text)
unfolding term_of
refused look text (Fault f) h k = rw k refl
refused look text OutOfMemory h k = some_term (term_of look text) h

pub is_whole : (look : Look) (text : List ℕ) (t : Data) (rest : List ℕ) → Ok tt ≡ checked (term_of look text)
    → term_at look 64 text ≡ Ok (t, rest) → term_of look text ≡ Ok t
unfolding term_of
is_whole look text t rest h k = rw k (by rest (h ∙ ap (λ (r : Read Data). checked (r >>= whole)) k))
  where
    fits : (b : Bool) → Ok tt ≡ checked {A = Data} {E = TermFault} (cond b (Ok t) (Err BadTerm)) → cond b (Ok t) (Err BadTerm) ≡ Ok t
    fits true q = refl
    fits false q = absurd cc

    by : (r : List ℕ) → Ok tt ≡ checked (whole (t, r)) → whole (t, r) ≡ Ok t
    by [] q = fits (leb (levels_of t) 64) q
    by (c ∷ cs) q = absurd cc
