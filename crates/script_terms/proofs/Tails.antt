-- A tail behind a | without a bracket is no list.
use Rattle.std.proofs.Common.{◌≡◌, ℕ, zero, suc, Bool, true, false, eqb, cond, List, []}
use Rattle.std.proofs.Common.{◌∷◌, length, Ok, Err, MatchResult, refl, sym, ap, subst, ◌∙◌}
use Rattle.std.proofs.lemmas.Bool.{false≢true}
use Rattle.erl_term.specs.Reading.{◌>>=◌}
use Rattle.erl_term.specs.Data.{Data, int, atom, binary, tuple, no_items}
use Rattle.erl_term.specs.View.{items_of}
use Rattle.erl_term.specs.Canonical.{is_list}
use Rattle.script_terms.specs.declared.lists.Step.{Step}
use Rattle.script_terms.specs.declared.lists.Step.TheVariants as step
use Rattle.script_terms.specs.declared.names.Named.{Named}
use Rattle.script_terms.specs.declared.names.Named.TheVariants.{Process, Monitor}
use Rattle.script_terms.specs.declared.fault.TermFault.TheVariants.{BadTerm}
use Rattle.script_terms.specs.Words.{is_lower}
use Rattle.script_terms.specs.Binding.{Look, named_data}
use Rattle.script_terms.specs.Reading.{Read, next_at, seen, named_at, quoted_at, binary_at, bare_at}
use Rattle.script_terms.specs.Reading.{integer_at, leaf_at, tuple_at, separated_at, term_with, term_at}
use Rattle.script_terms.specs.Steps.{step_at, tail_step_at}

abbrev NoList : Read Data → Type 0
NoList r = MatchResult r (λ x. is_list x.0 ≡ false) (λ _. Unit {0})

no_list_if : (b : Bool) (x y : Read Data) → NoList x → NoList y → NoList (cond b x y)
no_list_if true x y h k = h
no_list_if false x y h k = k

no_list_then : {A : Type 0} (r : Read A) (f : A × List ℕ → Read Data) → ((x : A × List ℕ) → NoList (f x)) → NoList (r >>= f)
no_list_then (Ok x) f h = h x
no_list_then (Err e) f h = tt

no_list_seen : {A : Type 0} (f : A → Data) (r : Read A) → ((a : A) → is_list (f a) ≡ false) → NoList (seen f r)
no_list_seen f r h = no_list_then r (λ x. Ok (f x.0, x.1)) (λ x. h x.0)

named_no_list : (named : Named) → is_list (named_data named) ≡ false
named_no_list (Process p) = refl
named_no_list (Monitor r) = refl

leaf_no_list : (look : Look) (first : ℕ) (rest bytes : List ℕ) → NoList (leaf_at look first rest bytes)
unfolding leaf_at
leaf_no_list look first rest bytes =
    no_list_if (eqb first 36) _ _ (no_list_seen named_data (named_at look rest) named_no_list)
    (no_list_if (eqb first 39) _ _ (no_list_seen atom (quoted_at rest) (λ a. refl))
    (no_list_if (eqb first 60) _ _ (no_list_seen binary (binary_at rest) (λ a. refl))
    (no_list_if (is_lower first) _ _ (no_list_seen atom (bare_at bytes) (λ a. refl)) (no_list_seen int (integer_at bytes) (λ z. refl)))))

tuple_no_list : (one : List ℕ → Read Data) (bytes : List ℕ) → NoList (tuple_at one bytes)
unfolding tuple_at
tuple_no_list one bytes = no_list_then (next_at bytes) _ (λ c.
    no_list_if (eqb c.0 125) (Ok (tuple no_items, c.1)) _ refl
    (no_list_then (separated_at one 125 (length bytes) bytes) (λ ts. Ok (tuple (items_of ts.0), ts.1)) (λ ts. refl)))

with_no_list : (look : Look) (n : ℕ) (inner : List ℕ → Read Data) (c : ℕ) (cs : List ℕ) → eqb c 91 ≡ false
    → NoList (term_with look n inner (c ∷ cs))
unfolding term_with
with_no_list look n inner c cs e = rw e
    (no_list_if (eqb c 123) _ _ (no_list_if (eqb n 0) (Err BadTerm) _ tt (tuple_no_list inner cs)) (leaf_no_list look c cs (c ∷ cs)))

nothing : (look : Look) (n : ℕ) (inner : List ℕ → Read Data) → term_with look n inner [] ≡ Err BadTerm
unfolding term_with
nothing look n inner = refl

term_no_list : (look : Look) (n : ℕ) (bytes : List ℕ) → ((c : ℕ) (r : List ℕ) → next_at bytes ≡ Ok (c, r) → eqb c 91 ≡ false)
    → NoList (term_at look n bytes)
unfolding term_at
term_no_list look zero [] h =
    let e : term_with look 0 (λ _. Err BadTerm) [] ≡ Err BadTerm = nothing look 0 (λ _. Err BadTerm) in subst NoList (sym e) tt
term_no_list look (suc n) [] h =
    let e : term_with look (suc n) (term_at look n) [] ≡ Err BadTerm = nothing look (suc n) (term_at look n) in subst NoList (sym e) tt
term_no_list look zero (c ∷ cs) h = with_no_list look 0 (λ _. Err BadTerm) c cs (h c cs refl)
term_no_list look (suc n) (c ∷ cs) h = with_no_list look (suc n) (term_at look n) c cs (h c cs refl)

ok_no_list : (r : Read Data) (t : Data) (rest : List ℕ) → NoList r → r ≡ Ok (t, rest) → is_list t ≡ false
ok_no_list r t rest h e = let P : Read Data → Type 0 = NoList in subst P e h

-- ---- the step behind which it stands

abbrev tail_step : Step → Bool
tail_step step.Tail = true
tail_step _ = false

abbrev is_tail : Read Step → Bool
is_tail (Ok x) = tail_step x.0
is_tail (Err e) = false

abbrev rest_of : Read Step → List ℕ
rest_of (Ok x) = x.1
rest_of (Err e) = []

abbrev byte_of : Read ℕ → ℕ
byte_of (Ok x) = x.0
byte_of (Err e) = 0

in_tail : (b : ℕ) (bs behind : List ℕ) (x : Bool) → eqb b 91 ≡ x → tail_step_at (b ∷ bs) ≡ Ok (step.Tail, behind)
    → (c : ℕ) (r : List ℕ) → next_at behind ≡ Ok (c, r) → eqb c 91 ≡ false
unfolding tail_step_at
in_tail b bs behind false e h c r k =
    let q : Ok (step.Tail, b ∷ bs) ≡ Ok (step.Tail, behind) = sym (rw e refl) ∙ h in
    let same : (b ∷ bs) ≡ behind = ap rest_of q in
    let first : Ok (b, bs) ≡ Ok (c, r) = ap next_at same ∙ k in
    let byte : b ≡ c = ap byte_of first in
    ap (λ (y : ℕ). eqb y 91) (sym byte) ∙ e
in_tail b [] behind true e h c r k =
    absurd (let q : Err BadTerm ≡ Ok (step.Tail, behind) = sym (rw e refl) ∙ h in false≢true (ap is_tail q))
in_tail b (d ∷ ds) behind true e h c r k = absurd (inner (eqb d 93) (sym (rw e refl) ∙ h))
  where
    inner : (y : Bool) → cond {A = Read Step} y (Ok (step.End, ds)) (Ok (step.List, d ∷ ds)) ≡ Ok (step.Tail, behind) → ⊥
    inner true q = false≢true (ap is_tail q)
    inner false q = false≢true (ap is_tail q)

no_tail : (behind : List ℕ) → tail_step_at [] ≡ Ok (step.Tail, behind) → ⊥
unfolding tail_step_at
no_tail behind q = false≢true (ap is_tail q)

tail_first : (after behind : List ℕ) → step_at after ≡ Ok (step.Tail, behind) → (c : ℕ) (r : List ℕ)
    → next_at behind ≡ Ok (c, r) → eqb c 91 ≡ false
unfolding step_at
tail_first [] behind h = absurd (false≢true (ap is_tail h))
tail_first (a ∷ as') behind h = by (eqb a 44) (eqb a 93) (eqb a 124) refl refl refl
  where
    from : (bs : List ℕ) → tail_step_at bs ≡ Ok (step.Tail, behind) → (c : ℕ) (r : List ℕ) → next_at behind ≡ Ok (c, r) → eqb c 91 ≡ false
    from [] q = absurd (no_tail behind q)
    from (b ∷ bs) q = in_tail b bs behind (eqb b 91) refl q

    by : (x y z : Bool) → eqb a 44 ≡ x → eqb a 93 ≡ y → eqb a 124 ≡ z → (c : ℕ) (r : List ℕ) → next_at behind ≡ Ok (c, r) → eqb c 91 ≡ false
    by true y z e f g = absurd (let q : Ok (step.Item, as') ≡ Ok (step.Tail, behind) = sym (rw e refl) ∙ h in false≢true (ap is_tail q))
    by false true z e f g =
        absurd (let q : Ok (step.End, a ∷ as') ≡ Ok (step.Tail, behind) = sym (rw (e, f) refl) ∙ h in false≢true (ap is_tail q))
    by false false true e f g = from as' (sym (rw (e, f, g) refl) ∙ h)
    by false false false e f g =
        absurd (let q : Err BadTerm ≡ Ok (step.Tail, behind) = sym (rw (e, f, g) refl) ∙ h in false≢true (ap is_tail q))

pub tail_no_list : (look : Look) (n : ℕ) (after behind : List ℕ) (t : Data) (rest : List ℕ)
    → step_at after ≡ Ok (step.Tail, behind) → term_at look n behind ≡ Ok (t, rest) → is_list t ≡ false
tail_no_list look n after behind t rest h e =
    ok_no_list (term_at look n behind) t rest (term_no_list look n behind (tail_first after behind h)) e
