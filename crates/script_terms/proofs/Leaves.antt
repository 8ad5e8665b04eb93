-- The kind of a term, by its first byte.
use Rattle.std.proofs.Common.{◌≡◌, ℕ, zero, suc, ◌-◌, ◌<◌, true, false, eqb, leb, List}
use Rattle.std.proofs.Common.{length, Ok, Err, refl, sym, ap, ◌∙◌, arith}
use Rattle.erl_term.specs.Data.{int, atom, binary}
use Rattle.std.specs.Prelude.{ℤ}
use Rattle.erl_term.proofs.Tags.{suc_not}
use Rattle.script_terms.specs.declared.fault.TermFault.{TermFault}
use Rattle.script_terms.specs.declared.fault.TermFault.TheVariants.{BadTerm}
use Rattle.script_terms.specs.declared.names.Named.{Named}
use Rattle.script_terms.specs.Words.{is_lower}
use Rattle.script_terms.specs.Binding.{Look, named_data}
use Rattle.script_terms.specs.Reading.{Read, next_at, named_at, quoted_at, binary_at, bare_at, integer_at}
use Rattle.script_terms.specs.Reading.{leaf_at, tuple_at, list_at, cells_at, term_with, term_at}

pub leaf_named : (look : Look) (first : ℕ) (rest bytes : List ℕ) (x : Named) (r : List ℕ) → eqb first 36 ≡ true
    → named_at look rest ≡ Ok (x, r) → leaf_at look first rest bytes ≡ Ok (named_data x, r)
unfolding leaf_at
leaf_named look first rest bytes x r a h = rw (a, h) refl

pub leaf_quoted : (look : Look) (first : ℕ) (rest bytes x r : List ℕ) → eqb first 36 ≡ false → eqb first 39 ≡ true
    → quoted_at rest ≡ Ok (x, r) → leaf_at look first rest bytes ≡ Ok (atom x, r)
unfolding leaf_at
leaf_quoted look first rest bytes x r a b h = rw (a, b, h) refl

pub leaf_binary : (look : Look) (first : ℕ) (rest bytes x r : List ℕ) → eqb first 36 ≡ false → eqb first 39 ≡ false
    → eqb first 60 ≡ true → binary_at rest ≡ Ok (x, r) → leaf_at look first rest bytes ≡ Ok (binary x, r)
unfolding leaf_at
leaf_binary look first rest bytes x r a b d h = rw (a, b, d, h) refl

pub leaf_bare : (look : Look) (first : ℕ) (rest bytes x r : List ℕ) → eqb first 36 ≡ false → eqb first 39 ≡ false
    → eqb first 60 ≡ false → is_lower first ≡ true → bare_at bytes ≡ Ok (x, r)
    → leaf_at look first rest bytes ≡ Ok (atom x, r)
unfolding leaf_at
leaf_bare look first rest bytes x r a b d l h = rw (a, b, d, l, h) refl

pub leaf_int : (look : Look) (first : ℕ) (rest bytes : List ℕ) (z : ℤ) (r : List ℕ) → eqb first 36 ≡ false
    → eqb first 39 ≡ false → eqb first 60 ≡ false → is_lower first ≡ false → integer_at bytes ≡ Ok (z, r)
    → leaf_at look first rest bytes ≡ Ok (int z, r)
unfolding leaf_at
leaf_int look first rest bytes z r a b d l h = rw (a, b, d, l, h) refl

-- ---- brackets

pub term_bad : (look : Look) (n : ℕ) (bytes : List ℕ) (f : TermFault) → next_at bytes ≡ Err f → term_at look n bytes ≡ Err f
unfolding term_at term_with
term_bad look zero bytes f h = rw h refl
term_bad look (suc n) bytes f h = rw h refl

pub term_leaf : (look : Look) (n : ℕ) (bytes : List ℕ) (first : ℕ) (rest : List ℕ) → next_at bytes ≡ Ok (first, rest)
    → eqb first 123 ≡ false → eqb first 91 ≡ false → term_at look n bytes ≡ leaf_at look first rest bytes
unfolding term_at term_with
term_leaf look zero bytes first rest h a b = rw (h, a, b) refl
term_leaf look (suc n) bytes first rest h a b = rw (h, a, b) refl

pub term_none_tuple : (look : Look) (n : ℕ) (bytes : List ℕ) (first : ℕ) (rest : List ℕ) → n ≡ 0
    → next_at bytes ≡ Ok (first, rest) → eqb first 123 ≡ true → term_at look n bytes ≡ Err BadTerm
unfolding term_at term_with
term_none_tuple look zero bytes first rest z h a = rw (h, a) refl
term_none_tuple look (suc n) bytes first rest z h a = absurd (omega arith)

pub term_none_list : (look : Look) (n : ℕ) (bytes : List ℕ) (first : ℕ) (rest : List ℕ) → n ≡ 0
    → next_at bytes ≡ Ok (first, rest) → eqb first 123 ≡ false → eqb first 91 ≡ true → term_at look n bytes ≡ Err BadTerm
unfolding term_at term_with
term_none_list look zero bytes first rest z h a b = rw (h, a, b) refl
term_none_list look (suc n) bytes first rest z h a b = absurd (omega arith)

pub term_tuple : (look : Look) (n : ℕ) (bytes : List ℕ) (first : ℕ) (rest : List ℕ) → 0 < n → next_at bytes ≡ Ok (first, rest)
    → eqb first 123 ≡ true → term_at look n bytes ≡ tuple_at (term_at look (n - 1)) rest
unfolding term_at term_with
term_tuple look zero bytes first rest some h a = absurd (omega arith)
term_tuple look (suc n) bytes first rest some h a = let e : suc n - 1 ≡ n = omega arith in rw (h, a, suc_not n, e) refl

pub term_list : (look : Look) (n : ℕ) (bytes : List ℕ) (first : ℕ) (rest : List ℕ) → 0 < n → next_at bytes ≡ Ok (first, rest)
    → eqb first 123 ≡ false → eqb first 91 ≡ true
    → term_at look n bytes ≡ list_at (cells_at (term_at look (n - 1)) (length rest)) rest
unfolding term_at term_with
term_list look zero bytes first rest some h a b = absurd (omega arith)
term_list look (suc n) bytes first rest some h a b = let e : suc n - 1 ≡ n = omega arith in rw (h, a, b, suc_not n, e) refl

-- ---- a fact that is told, as reading gives it

pub got : {A : Type 0} (r : Read A) (y : A × List ℕ) (after : List ℕ) → r ≡ Ok y → y.1 ≡ after → r ≡ Ok (y.0, after)
got {A} r y after e f = e ∙ ap (λ (z : List ℕ). Ok (y.0, z)) f

pub one_fits : (n level : ℕ) → level ≡ 1 → leb 1 n ≡ leb level n
one_fits n level e = ap (λ (l : ℕ). leb l n) (sym e)
