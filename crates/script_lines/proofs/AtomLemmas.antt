-- A text that is a term is an atom just where it begins as one.
use Rattle.std.proofs.Common.{◌≡◌, ◌||◌, ℕ, zero, suc, eqb, nat_le, Bool, true, false, cond, List, [], ◌∷◌, length}
use Rattle.std.proofs.Common.{Result, Ok, Err, IfOk, refl, sym, ap, subst, ◌∙◌}
use Rattle.std.proofs.lemmas.Bool.{eqb-true}
use Rattle.erl_term.specs.Canonical.{levels_of}
use Rattle.erl_term.specs.Data.{Data, int, atom, tuple, list, improper, binary, pid, reference, item, joined, no_items}
use Rattle.erl_term.specs.Reading.{◌>>=◌}
use Rattle.script_lines.specs.Naming.{atom_read, begins_atom, is_atom}
use Rattle.script_lines.specs.declared.reason.Reason.{Reason}
use Rattle.script_lines.specs.declared.reason.Reason.TheVariants.{BadTerm}
use Rattle.script_terms.specs.Binding.{Look, named_data}
use Rattle.script_terms.specs.Checking.{checked}
use Rattle.script_terms.specs.Reading.{Read, bare_at, binary_at, cells_at, integer_at, leaf_at, list_at, mark_at, named_at, next_at}
use Rattle.script_terms.specs.Reading.{quoted_at, seen, separated_at, tail_at, term_at, term_of, term_with, tuple_at, whole}
use Rattle.script_terms.specs.Words.{is_lower}
use Rattle.script_terms.specs.declared.fault.TermFault.{TermFault}
use Rattle.script_terms.specs.declared.fault.TermFault.TheVariants as fault
use Rattle.script_terms.specs.declared.names.Named.{Named}
use Rattle.script_terms.specs.declared.names.Named.TheVariants.{Process, Monitor}

abbrev is_atom_data : Data → Bool
is_atom_data (int z) = false
is_atom_data (atom a) = true
is_atom_data (tuple ts) = false
is_atom_data (list ts) = false
is_atom_data (improper ts t) = false
is_atom_data (binary a) = false
is_atom_data (pid p) = false
is_atom_data (reference r) = false

-- a term that is read is an atom, or isn't
abbrev Tells : Bool → Read Data → Type 0
Tells b read = IfOk read (λ x. is_atom_data x.0 ≡ b)

bind : {X : Type 0} (b : Bool) (r : Result X TermFault) (f : X → Read Data) → ((x : X) → Tells b (f x)) → Tells b (r >>= f)
bind b (Ok x) f h = h x
bind b (Err e) f h = tt

pick : (b test : Bool) (x y : Read Data) → Tells b x → Tells b y → Tells b (cond test x y)
pick b true x y h k = h
pick b false x y h k = k

-- ---- terms in brackets

tuple_tells : (one : List ℕ → Read Data) (bytes : List ℕ) → Tells false (tuple_at one bytes)
unfolding tuple_at
tuple_tells one bytes = bind false (next_at bytes) _ (λ c.
    pick false (eqb c.0 125) _ _ refl (bind false (separated_at one 125 (length bytes) bytes) _ (λ ts. refl)))

joined_tells : (t u : Data) → is_atom_data (joined (item t no_items) u) ≡ false
joined_tells t (int z) = refl
joined_tells t (atom a) = refl
joined_tells t (tuple us) = refl
joined_tells t (list us) = refl
joined_tells t (improper us v) = refl
joined_tells t (binary a) = refl
joined_tells t (pid p) = refl
joined_tells t (reference r) = refl

cells_tell : (one : List ℕ → Read Data) (most : ℕ) (bytes : List ℕ) → Tells false (cells_at one most bytes)
unfolding cells_at
cells_tell one zero bytes = tt
cells_tell one (suc most) bytes = bind false (one bytes) _ (λ t. bind false (next_at t.1) _ (λ c.
    pick false (eqb c.0 44) _ _ (bind false (cells_at one most c.1) _ (λ u. joined_tells t.0 u.0))
    (pick false (eqb c.0 93) _ _ refl
    (pick false (eqb c.0 124) _ _
    (bind false (tail_at one (cells_at one most) c.1) _ (λ u. bind false (mark_at 93 u.1) _ (λ close. joined_tells t.0 u.0))) tt))))

list_tells : (one : List ℕ → Read Data) (most : ℕ) (bytes : List ℕ) → Tells false (list_at (cells_at one most) bytes)
list_tells one most bytes = bind false (next_at bytes) _ (λ c. pick false (eqb c.0 93) _ _ refl (cells_tell one most bytes))

-- ---- terms without brackets

named_tells : (n : Named) → is_atom_data (named_data n) ≡ false
named_tells (Process p) = refl
named_tells (Monitor r) = refl

abbrev begins : ℕ → Bool
begins c = eqb c 39 || is_lower c

begins_other : (c d : ℕ) → eqb c d ≡ true → begins d ≡ false → begins c ≡ false
begins_other c d e h = ap begins (eqb-true c d e) ∙ h

leaf_tells : (look : Look) (c : ℕ) (rest bytes : List ℕ) → Tells (begins c) (leaf_at look c rest bytes)
unfolding leaf_at
leaf_tells look c rest bytes = go (eqb c 36) (eqb c 60) refl refl (eqb c 39) (is_lower c) refl
  where
    go : (a d : Bool) → eqb c 36 ≡ a → eqb c 60 ≡ d → (b l : Bool) → begins c ≡ b || l
        → Tells (b || l) (cond a (seen named_data (named_at look rest))
        (cond b (seen atom (quoted_at rest)) (cond d (seen binary (binary_at rest)) (cond l (seen atom (bare_at bytes)) (seen int (integer_at bytes))))))
    go true d e f b l g = bind (b || l) (named_at look rest) _ (λ x. named_tells x.0 ∙ sym (begins_other c 36 e refl) ∙ g)
    go false d e f true l g = bind true (quoted_at rest) _ (λ x. refl)
    go false true e f false l g = bind l (binary_at rest) _ (λ x. sym (begins_other c 60 f refl) ∙ g)
    go false false e f false true g = bind true (bare_at bytes) _ (λ x. refl)
    go false false e f false false g = bind false (integer_at bytes) _ (λ x. refl)

-- ---- all terms

with_tells : (look : Look) (brackets : ℕ) (inner : List ℕ → Read Data) (c : ℕ) (cs : List ℕ)
    → Tells (begins c) (term_with look brackets inner (c ∷ cs))
unfolding term_with
with_tells look brackets inner c cs = go (eqb c 123) (eqb c 91) refl refl
  where
    go : (a b : Bool) → eqb c 123 ≡ a → eqb c 91 ≡ b
        → Tells (begins c) (cond a (cond (eqb brackets 0) (Err fault.BadTerm) (tuple_at inner cs))
        (cond b (cond (eqb brackets 0) (Err fault.BadTerm) (list_at (cells_at inner (length cs)) cs)) (leaf_at look c cs (c ∷ cs))))
    go true b e f =
        subst (λ k. Tells k (cond (eqb brackets 0) (Err fault.BadTerm) (tuple_at inner cs))) (sym (begins_other c 123 e refl))
        (pick false (eqb brackets 0) _ _ tt (tuple_tells inner cs))
    go false true e f =
        subst (λ k. Tells k (cond (eqb brackets 0) (Err fault.BadTerm) (list_at (cells_at inner (length cs)) cs)))
        (sym (begins_other c 91 f refl))
        (pick false (eqb brackets 0) _ _ tt (list_tells inner (length cs) cs))
    go false false e f = leaf_tells look c cs (c ∷ cs)

term_tells : (look : Look) (brackets c : ℕ) (cs : List ℕ) → Tells (begins c) (term_at look brackets (c ∷ cs))
unfolding term_at
term_tells look zero c cs = with_tells look 0 (λ _. Err fault.BadTerm) c cs
term_tells look (suc brackets) c cs = with_tells look (suc brackets) (term_at look brackets) c cs

-- ---- a text that is one

-- any fault is that it is no term
abbrev bad : Result (Unit {0}) TermFault → Result (Unit {0}) Reason
bad (Ok x) = Ok tt
bad (Err e) = Err BadTerm

kind_told : (t : Data) → is_atom (Ok t) ≡ cond (is_atom_data t) (Ok tt) (Err BadTerm)
kind_told (int z) = refl
kind_told (atom a) = refl
kind_told (tuple ts) = refl
kind_told (list ts) = refl
kind_told (improper ts t) = refl
kind_told (binary a) = refl
kind_told (pid p) = refl
kind_told (reference r) = refl

told : (b : Bool) (read : Read Data) → Tells b read → is_atom (read >>= whole) ≡ cond b (bad (checked (read >>= whole))) (Err BadTerm)
told true (Err e) h = refl
told false (Err e) h = refl
told true (Ok (t, c ∷ cs)) h = refl
told false (Ok (t, c ∷ cs)) h = refl
told b (Ok (t, [])) h = go (nat_le (levels_of t) 64)
  where
    go : (fits : Bool)
        → is_atom (cond fits (Ok t) (Err fault.BadTerm)) ≡ cond b (bad (checked (cond fits (Ok t) (Err fault.BadTerm)))) (Err BadTerm)
    go true = kind_told t ∙ ap (λ k. cond k (Ok tt) (Err BadTerm)) h
    go false = other b
      where
        other : (k : Bool) → is_atom (Err fault.BadTerm) ≡ cond k (bad (Err fault.BadTerm)) (Err BadTerm)
        other true = refl
        other false = refl

atom_told : (look : Look) (text : List ℕ) → atom_read look text ≡ cond (begins_atom text) (bad (checked (term_of look text))) (Err BadTerm)
unfolding term_of term_at term_with
atom_told look [] = refl
atom_told look (c ∷ cs) = told (begins c) (term_at look 64 (c ∷ cs)) (term_tells look 64 c cs)

-- a term that begins as an atom is one
pub atom_due : (look : Look) (text : List ℕ) → begins_atom text ≡ true → checked (term_of look text) ≡ Ok tt
    → atom_read look text ≡ Ok tt
atom_due look text b h = atom_told look text ∙ ap (λ k. cond k (bad (checked (term_of look text))) (Err BadTerm)) b ∙ ap bad h

-- no other text is one
pub no_term : (look : Look) (text : List ℕ) (e : TermFault) → checked (term_of look text) ≡ Err e → atom_read look text ≡ Err BadTerm
no_term look text e h = go (begins_atom text) (atom_told look text)
  where
    go : (b : Bool) → atom_read look text ≡ cond b (bad (checked (term_of look text))) (Err BadTerm) → atom_read look text ≡ Err BadTerm
    go true k = k ∙ ap bad h
    go false k = k

pub no_atom : (look : Look) (text : List ℕ) → begins_atom text ≡ false → atom_read look text ≡ Err BadTerm
no_atom look text b = atom_told look text ∙ ap (λ k. cond k (bad (checked (term_of look text))) (Err BadTerm)) b
