-- A walk over the entries in the order of their keys, each behind the one before.
use Rattle.std.proofs.Common.{◌≡◌, ◌<◌, ◌+◌, ℕ, suc, Bool, true, false, cond, not, T, List, [], ◌∷◌, ◌++◌, length, length-append, filter}
use Rattle.std.proofs.Common.{Option, None, Some, refl, sym, ap, subst, ◌∙◌, arith}
use Rattle.std.specs.declared.cmp.Ordering.{Ordering}
use Rattle.std.specs.declared.cmp.Ordering.TheVariants.{Less}
use Rattle.std.specs.Ordering.{is_lt, ordering_reverse}
use Rattle.std.specs.Cmp.{IsTotalOrder}
use Rattle.std.proofs.lemmas.Cmp.{tied_itself}
use Rattle.std.specs.FinMap.{is_sorted}
use Rattle.std.specs.FinMap.Entries.{below_all}
use Rattle.sorted_map.specs.Facts.{both_pass, less}
use Rattle.sorted_map.specs.Entries.{is_behind, next}
use Rattle.sorted_map.proofs.Orderings.{less_of}

one : {A : Type 0} (a b : A) → Some a ≡ Some b → a ≡ b
one a b h = cc

module _ {K : Type 0} {cmp : K → K → Ordering} (total : IsTotalOrder cmp) where
  not_itself : (key : K) → is_behind cmp (Some key) key ≡ false
  not_itself key = ap is_lt (tied_itself total key)

  still_behind : (behind : Option K) (r s : K) → is_behind cmp behind r ≡ true → cmp r s ≡ Less → is_behind cmp behind s ≡ true
  still_behind None r s h l = refl
  still_behind (Some last) r s h l = ap is_lt (total.trans last r s (less_of _ h) l)

module _ {K V : Type 0} (cmp : K → K → Ordering) where
  -- those up to a key, and those behind it
  abbrev pub walked : Option K → List (K × V) → List (K × V)
  walked behind entries = filter (λ entry. not (is_behind cmp behind entry.0)) entries

  abbrev pub ahead : Option K → List (K × V) → ℕ
  ahead behind entries = length (filter (λ entry. is_behind cmp behind entry.0) entries)

  pub walked_none : (entries : List (K × V)) → walked None entries ≡ []
  walked_none [] = refl
  walked_none (x ∷ rest) = walked_none rest

  -- where there is no next one, all have been walked
  pub walked_all : (behind : Option K) (entries : List (K × V)) → next cmp behind entries ≡ None → walked behind entries ≡ entries
  walked_all behind [] h = refl
  walked_all behind (x ∷ rest) h = go (is_behind cmp behind x.0) h (walked_all behind rest)
    where
      go : (b : Bool) → cond b (Some x) (next cmp behind rest) ≡ None → (next cmp behind rest ≡ None → walked behind rest ≡ rest)
          → cond (not b) (x ∷ walked behind rest) (walked behind rest) ≡ x ∷ rest
      go true k more = cc
      go false k more = ap (λ l. x ∷ l) (more k)

  both_parts : (behind : Option K) (entries : List (K × V)) → length (walked behind entries) + ahead behind entries ≡ length entries
  both_parts behind [] = refl
  both_parts behind (x ∷ rest) = go (is_behind cmp behind x.0) (both_parts behind rest)
    where
      go : (b : Bool) → length (walked behind rest) + ahead behind rest ≡ length rest
          → length (cond (not b) (x ∷ walked behind rest) (walked behind rest))
          + length (cond b (x ∷ filter (λ entry. is_behind cmp behind entry.0) rest) (filter (λ entry. is_behind cmp behind entry.0) rest))
          ≡ suc (length rest)
      go true k = omega (arith, k)
      go false k = omega (arith, k)

  module _ (total : IsTotalOrder cmp) where
    -- none of the greater ones has been walked
    walked_above : (behind : Option K) (r : K) (entries : List (K × V)) → ((s : K) → cmp r s ≡ Less → is_behind cmp behind s ≡ true)
        → T (below_all cmp r entries) → walked behind entries ≡ []
    walked_above behind r [] f b = refl
    walked_above behind r (x ∷ rest) f b =
        let t = both_pass (is_lt (cmp r x.0)) (below_all cmp r rest) b in
        ap (λ c. cond (not c) (x ∷ walked behind rest) (walked behind rest)) (f x.0 (less _ t.0)) ∙ walked_above behind r rest f t.1

    later_less : (behind : Option K) (r : K) (entries : List (K × V)) (e : K × V) → T (below_all cmp r entries)
        → next cmp behind entries ≡ Some e → cmp r e.0 ≡ Less
    later_less behind r [] e b h = cc
    later_less behind r (x ∷ rest) e b h = go (is_behind cmp behind x.0) h (later_less behind r rest e t.1)
      where
        t : T (is_lt (cmp r x.0)) × T (below_all cmp r rest)
        t = both_pass (is_lt (cmp r x.0)) (below_all cmp r rest) b

        go : (p : Bool) → cond p (Some x) (next cmp behind rest) ≡ Some e → (next cmp behind rest ≡ Some e → cmp r e.0 ≡ Less) → cmp r e.0 ≡ Less
        go true k more = subst (λ (z : K × V). cmp r z.0 ≡ Less) (one x e k) (less _ t.0)
        go false k more = more k

    -- the next one is walked now
    pub walked_on : (behind : Option K) (entries : List (K × V)) (e : K × V) → T (is_sorted cmp entries) → next cmp behind entries ≡ Some e
        → walked (Some e.0) entries ≡ walked behind entries ++ e ∷ []
    walked_on behind [] e s h = cc
    walked_on behind (x ∷ rest) e s h =
        let t = both_pass (below_all cmp x.0 rest) (is_sorted cmp rest) s in
        go t.0 (is_behind cmp behind x.0) refl h (walked_on behind rest e t.1)
      where
        go : T (below_all cmp x.0 rest) → (p : Bool) → is_behind cmp behind x.0 ≡ p → cond p (Some x) (next cmp behind rest) ≡ Some e
            → (next cmp behind rest ≡ Some e → walked (Some e.0) rest ≡ walked behind rest ++ e ∷ [])
            → cond (not (is_behind cmp (Some e.0) x.0)) (x ∷ walked (Some e.0) rest) (walked (Some e.0) rest)
            ≡ cond (not p) (x ∷ walked behind rest) (walked behind rest) ++ e ∷ []
        go b true u k more =
            let here : cond (not (is_behind cmp (Some x.0) x.0)) (x ∷ walked (Some x.0) rest) (walked (Some x.0) rest) ≡ walked behind rest ++ x ∷ [] =
            ap (λ c. cond (not c) (x ∷ walked (Some x.0) rest) (walked (Some x.0) rest)) (not_itself total x.0)
            ∙ ap (λ l. x ∷ l) (walked_above (Some x.0) x.0 rest (λ s l. ap is_lt l) b)
            ∙ sym (ap (λ l. l ++ x ∷ []) (walked_above behind x.0 rest (λ s l. still_behind total behind x.0 s u l) b)) in
            subst (λ (z : K × V). cond (not (is_behind cmp (Some z.0) x.0)) (x ∷ walked (Some z.0) rest) (walked (Some z.0) rest)
            ≡ walked behind rest ++ z ∷ []) (one x e k) here
        go b false u k more =
            let above : is_behind cmp (Some e.0) x.0 ≡ false =
            ap is_lt (total.antisymm e.0 x.0 ∙ ap ordering_reverse (later_less behind x.0 rest e b k)) in
            ap (λ c. cond (not c) (x ∷ walked (Some e.0) rest) (walked (Some e.0) rest)) above ∙ ap (λ l. x ∷ l) (more k)

    -- and fewer are behind it
    pub fewer_ahead : (behind : Option K) (entries : List (K × V)) (e : K × V) → T (is_sorted cmp entries) → next cmp behind entries ≡ Some e
        → ahead (Some e.0) entries < ahead behind entries
    fewer_ahead behind entries e s h =
        let on = ap length (walked_on behind entries e s h) in
        omega (arith, on, length-append (walked behind entries) (e ∷ []), both_parts behind entries, both_parts (Some e.0) entries)
