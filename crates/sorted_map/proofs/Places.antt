-- Where an entry stands, and what an edit there does to the entries.
use Rattle.std.proofs.Common.{◌≡◌, ℕ, zero, suc, ◌<◌, ◌≤◌, Bool, true, false, cond, not, ◌&&◌, T, List, [], ◌∷◌, length, get_or, set}
use Rattle.std.proofs.Common.{Option, None, Some, is_some, IsSome, Result, Ok, Err, IfOk, IfErr, refl, sym, ap, subst, ◌∙◌, arith}
use Rattle.std.specs.declared.cmp.Ordering.{Ordering}
use Rattle.std.specs.declared.cmp.Ordering.TheVariants.{Less, Equal, Greater}
use Rattle.std.specs.Ordering.{is_lt, is_eq, ordering_reverse, ordering_index, eq_by_cmp}
use Rattle.std.specs.List.{insert, remove, items_where_true}
use Rattle.std.specs.Cmp.{IsTotalOrder, alike_right}
use Rattle.std.specs.List.Sorted.{IsSearchInRange, IsBinarySearchResult, IsNonDecreasingBy, IsPartitionedBy}
use Rattle.std.specs.FinMap.{find, put, is_sorted}
use Rattle.std.specs.FinMap.Entries.{by_order, below_all, is_sorted-where_key, is_sorted-put}
use Rattle.sorted_map.specs.Facts.{both_pass, joined, less, find_below_all}
use Rattle.sorted_map.specs.Entries.{IsFoundAt, IsGapAt, without, changed}

-- there is none
pub is_not_some : {A : Type 0} (o : Option A) → o ≡ None → IsSome o → ⊥
is_not_some None e h = cc
is_not_some (Some x) e h = cc

abbrev is_other : {K : Type 0} → (K → K → Ordering) → K → K → Bool
is_other cmp q x = not (eq_by_cmp cmp q x)

module _ {K : Type 0} {cmp : K → K → Ordering} (order : IsTotalOrder cmp) where
  pub less_than_tied : (x y q : K) → cmp x y ≡ Less → cmp y q ≡ Equal → cmp x q ≡ Less
  less_than_tied x y q l e = sym (alike_right order y q x e) ∙ l

  -- a lesser key compares with a third no higher
  pub index_rises : (x y q : K) → cmp x y ≡ Less → ordering_index (cmp x q) ≤ ordering_index (cmp y q)
  index_rises x y q lt = go (cmp y q) refl
    where
      at_most_two : (o : Ordering) → ordering_index o ≤ 2
      at_most_two Less = omega arith
      at_most_two Equal = omega arith
      at_most_two Greater = omega arith

      go : (o : Ordering) → cmp y q ≡ o → ordering_index (cmp x q) ≤ ordering_index o
      go Less e = let l : cmp x q ≡ Less = order.trans x y q lt e in rw l (omega arith)
      go Equal e = let l : cmp x q ≡ Less = less_than_tied x y q lt e in rw l (omega arith)
      go Greater e = at_most_two _

  pub greater_of_less : (x y : K) → cmp x y ≡ Less → cmp y x ≡ Greater
  greater_of_less x y h = order.antisymm y x ∙ ap ordering_reverse h

  pub less_of_greater : (x y : K) → cmp x y ≡ Greater → cmp y x ≡ Less
  less_of_greater x y h = order.antisymm y x ∙ ap ordering_reverse h

  pub tied_back : (x y : K) → cmp x y ≡ Equal → cmp y x ≡ Equal
  tied_back x y h = order.antisymm y x ∙ ap ordering_reverse h

module _ {K V : Type 0} {cmp : K → K → Ordering} (order : IsTotalOrder cmp) where
  -- each later key is greater
  later_greater : (x : K) (rest : List (K × V)) (at : ℕ) (d : K × V) → T (below_all cmp x rest) → at < length rest
      → cmp x (get_or rest at d).0 ≡ Less
  later_greater x [] at d h l = absurd (omega arith)
  later_greater x (e ∷ rest) zero d h l = less _ (both_pass _ _ h).0
  later_greater x (e ∷ rest) (suc at) d h l = later_greater x rest at d (both_pass _ _ h).1 (omega arith)

  rises : (q : K) (es : List (K × V)) → T (is_sorted cmp es) → IsNonDecreasingBy (λ e. ordering_index (cmp e.0 q)) es
  rises q [] h i j d le l = absurd (omega arith)
  rises q (e ∷ rest) h zero zero d le l = omega arith
  rises q (e ∷ rest) h zero (suc j) d le l = index_rises order e.0 _ q (later_greater e.0 rest j d (both_pass _ _ h).0 (omega arith))
  rises q (e ∷ rest) h (suc i) zero d le l = absurd (omega arith)
  rises q (e ∷ rest) h (suc i) (suc j) d le l = rises q rest (both_pass _ _ h).1 i j d (omega arith) (omega arith)

  -- where a lesser entry passes with a greater one, those that pass stand in front
  pub passing_first : (p : K × V → Bool) → ((x y : K × V) → cmp x.0 y.0 ≡ Less → p y ≡ true → p x ≡ true)
      → (es : List (K × V)) → T (is_sorted cmp es) → IsPartitionedBy p es
  passing_first p m [] s i j d le l h = absurd (omega arith)
  passing_first p m (e ∷ rest) s zero zero d le l h = h
  passing_first p m (e ∷ rest) s zero (suc j) d le l h =
      m e (get_or rest j d) (later_greater e.0 rest j d (both_pass _ _ s).0 (omega arith)) h
  passing_first p m (e ∷ rest) s (suc i) zero d le l h = absurd (omega arith)
  passing_first p m (e ∷ rest) s (suc i) (suc j) d le l h = passing_first p m rest (both_pass _ _ s).1 i j d (omega arith) (omega arith) h

  pub found_in_range : (es : List (K × V)) (q : K) (at : ℕ) → IsFoundAt cmp es q at → at < length es
  found_in_range [] q at h = absurd h
  found_in_range (e ∷ rest) q zero h = omega arith
  found_in_range (e ∷ rest) q (suc at) h = omega (arith, found_in_range rest q at h.1)

  pub gap_in_range : (es : List (K × V)) (q : K) (at : ℕ) → IsGapAt cmp es q at → at ≤ length es
  gap_in_range [] q zero h = omega arith
  gap_in_range [] q (suc at) h = absurd h
  gap_in_range (e ∷ rest) q zero h = omega arith
  gap_in_range (e ∷ rest) q (suc at) h = omega (arith, gap_in_range rest q at h.1)

  -- a binary search ends at the entry, or at the gap for it
  found_at : (es : List (K × V)) (q : K) (at : ℕ) → T (is_sorted cmp es) → at < length es
      → ((d : K × V) → cmp (get_or es at d).0 q ≡ Equal) → IsFoundAt cmp es q at
  found_at [] q at s l h = absurd (omega arith)
  found_at (e ∷ rest) q zero s l h = h e
  found_at (e ∷ rest) q (suc at) s l h =
      let t = both_pass _ _ s in
      (less_than_tied order e.0 _ q (later_greater e.0 rest at e t.0 (omega arith)) (h e), found_at rest q at t.1 (omega arith) h)

  gap_at : (es : List (K × V)) (q : K) (at : ℕ) → at ≤ length es
      → ((k : ℕ) (d : K × V) → k < at → cmp (get_or es k d).0 q ≡ Less)
      → ((k : ℕ) (d : K × V) → at ≤ k → k < length es → cmp (get_or es k d).0 q ≡ Greater) → IsGapAt cmp es q at
  gap_at [] q zero l below above = tt
  gap_at [] q (suc at) l below above = absurd (omega arith)
  gap_at (e ∷ rest) q zero l below above = above 0 e (omega arith) (omega arith)
  gap_at (e ∷ rest) q (suc at) l below above = (
    below 0 e (omega arith),
    gap_at rest q at (omega arith) (λ k d lt. below (suc k) d (omega arith)) (λ k d le lt. above (suc k) d (omega arith) (omega arith)),
  )

  pub searched : (es : List (K × V)) (q : K) (r : Result ℕ ℕ) → T (is_sorted cmp es) → IsSearchInRange r (length es)
      → IsBinarySearchResult (λ e. cmp e.0 q) es r
      → record { found : IfOk r (IsFoundAt cmp es q); gap : IfErr r (IsGapAt cmp es q) }
  searched es q (Ok at) s bound h = record { found = found_at es q at s bound h; gap = tt }
  searched es q (Err at) s bound h =
      let parted = h (rises q es s) in
      record { found = tt; gap = gap_at es q at bound (λ k d lt. parted.0 k d (omega arith) lt) (λ k d le lt. parted.1 k d le lt) }

  -- what the key has
  pub finds : (es : List (K × V)) (q : K) (at : ℕ) (d : K × V) → IsFoundAt cmp es q at → find cmp q es ≡ Some (get_or es at d).1
  finds [] q at d h = absurd h
  finds (e ∷ rest) q zero d h = ap (λ o. cond (is_eq o) (Some e.1) (find cmp q rest)) (tied_back order e.0 q h)
  finds (e ∷ rest) q (suc at) d h =
      ap (λ o. cond (is_eq o) (Some e.1) (find cmp q rest)) (greater_of_less order e.0 q h.0) ∙ finds rest q at d h.1

  pub all_greater : (q x : K) (es : List (K × V)) → cmp q x ≡ Less → T (below_all cmp x es) → T (below_all cmp q es)
  all_greater q x [] l h = tt
  all_greater q x (e ∷ rest) l h =
      let t = both_pass _ _ h in
      let r : T (below_all cmp q rest) = all_greater q x rest l t.1 in
      subst (λ o. T (is_lt o && below_all cmp q rest)) (sym (order.trans q x e.0 l (less _ t.0))) r

  pub all_above_tied : (q x : K) (es : List (K × V)) → cmp x q ≡ Equal → T (below_all cmp x es) → T (below_all cmp q es)
  all_above_tied q x [] t h = tt
  all_above_tied q x (e ∷ rest) t h =
      let s = both_pass _ _ h in
      let r : T (below_all cmp q rest) = all_above_tied q x rest t s.1 in
      joined _ _ (subst (λ o. T (is_lt o)) (order.congr x q e.0 t) s.0) r

  pub finds_none : (es : List (K × V)) (q : K) (at : ℕ) → T (is_sorted cmp es) → IsGapAt cmp es q at → find cmp q es ≡ None
  finds_none [] q at s h = refl
  finds_none (e ∷ rest) q zero s h =
      let l = less_of_greater order e.0 q h in
      ap (λ o. cond (is_eq o) (Some e.1) (find cmp q rest)) l ∙ find_below_all cmp q rest (all_greater q e.0 rest l (both_pass _ _ s).0)
  finds_none (e ∷ rest) q (suc at) s h =
      ap (λ o. cond (is_eq o) (Some e.1) (find cmp q rest)) (greater_of_less order e.0 q h.0) ∙ finds_none rest q at (both_pass _ _ s).1 h.1

  -- an edit at the place is the map's
  pub put_found : (es : List (K × V)) (q : K) (v : V) (at : ℕ) (d : K × V) → IsFoundAt cmp es q at
      → put cmp q v es ≡ set es at ((get_or es at d).0, v)
  put_found [] q v at d h = absurd h
  put_found (e ∷ rest) q v zero d h =
      ap (λ o. by_order o ((q, v) ∷ e ∷ rest) ((e.0, v) ∷ rest) (e ∷ put cmp q v rest)) (tied_back order e.0 q h)
  put_found (e ∷ rest) q v (suc at) d h =
      ap (λ o. by_order o ((q, v) ∷ e ∷ rest) ((e.0, v) ∷ rest) (e ∷ put cmp q v rest)) (greater_of_less order e.0 q h.0)
      ∙ ap (λ l. e ∷ l) (put_found rest q v at d h.1)

  pub put_gap : (es : List (K × V)) (q : K) (v : V) (at : ℕ) → IsGapAt cmp es q at → put cmp q v es ≡ insert es at (q, v)
  put_gap [] q v zero h = refl
  put_gap [] q v (suc at) h = absurd h
  put_gap (e ∷ rest) q v zero h =
      ap (λ o. by_order o ((q, v) ∷ e ∷ rest) ((e.0, v) ∷ rest) (e ∷ put cmp q v rest)) (less_of_greater order e.0 q h)
  put_gap (e ∷ rest) q v (suc at) h =
      ap (λ o. by_order o ((q, v) ∷ e ∷ rest) ((e.0, v) ∷ rest) (e ∷ put cmp q v rest)) (greater_of_less order e.0 q h.0)
      ∙ ap (λ l. e ∷ l) (put_gap rest q v at h.1)

  pub all_others : (q : K) (es : List (K × V)) → T (below_all cmp q es) → without cmp q es ≡ es
  all_others q [] h = refl
  all_others q (e ∷ rest) h =
      let t = both_pass _ _ h in
      ap (λ o. cond (not (is_eq o)) (e ∷ without cmp q rest) (without cmp q rest)) (less _ t.0) ∙ ap (λ l. e ∷ l) (all_others q rest t.1)

  pub without_found : (es : List (K × V)) (q : K) (at : ℕ) → T (is_sorted cmp es) → IsFoundAt cmp es q at → without cmp q es ≡ remove es at
  without_found [] q at s h = absurd h
  without_found (e ∷ rest) q zero s h =
      ap (λ o. cond (not (is_eq o)) (e ∷ without cmp q rest) (without cmp q rest)) (tied_back order e.0 q h)
      ∙ all_others q rest (all_above_tied q e.0 rest h (both_pass _ _ s).0)
  without_found (e ∷ rest) q (suc at) s h =
      ap (λ o. cond (not (is_eq o)) (e ∷ without cmp q rest) (without cmp q rest)) (greater_of_less order e.0 q h.0)
      ∙ ap (λ l. e ∷ l) (without_found rest q at (both_pass _ _ s).1 h.1)

  pub without_gap : (es : List (K × V)) (q : K) (at : ℕ) → T (is_sorted cmp es) → IsGapAt cmp es q at → without cmp q es ≡ es
  without_gap [] q at s h = refl
  without_gap (e ∷ rest) q zero s h =
      let l = less_of_greater order e.0 q h in
      ap (λ o. cond (not (is_eq o)) (e ∷ without cmp q rest) (without cmp q rest)) l
      ∙ ap (λ r. e ∷ r) (all_others q rest (all_greater q e.0 rest l (both_pass _ _ s).0))
  without_gap (e ∷ rest) q (suc at) s h =
      ap (λ o. cond (not (is_eq o)) (e ∷ without cmp q rest) (without cmp q rest)) (greater_of_less order e.0 q h.0)
      ∙ ap (λ l. e ∷ l) (without_gap rest q at (both_pass _ _ s).1 h.1)

  pub changed_found : (es : List (K × V)) (q : K) (v : V) (at : ℕ) (d : K × V) → IsFoundAt cmp es q at
      → changed cmp q v es ≡ set es at ((get_or es at d).0, v)
  changed_found es q v at d h = ap (λ o. cond (is_some o) (put cmp q v es) es) (finds es q at d h) ∙ put_found es q v at d h

  pub changed_gap : (es : List (K × V)) (q : K) (v : V) (at : ℕ) → T (is_sorted cmp es) → IsGapAt cmp es q at → changed cmp q v es ≡ es
  changed_gap es q v at s h = ap (λ o. cond (is_some o) (put cmp q v es) es) (finds_none es q at s h)

  -- and leaves them sorted
  pub sorted_put : (es fs : List (K × V)) (q : K) (v : V) → T (is_sorted cmp es) → put cmp q v es ≡ fs → T (is_sorted cmp fs)
  sorted_put es fs q v s e = subst (λ l. T (is_sorted cmp l)) e (is_sorted-put cmp order q v es s)

  pub sorted_without : (es fs : List (K × V)) (q : K) → T (is_sorted cmp es) → without cmp q es ≡ fs → T (is_sorted cmp fs)
  sorted_without es fs q s e = subst (λ l. T (is_sorted cmp l)) e (is_sorted-where_key cmp (is_other cmp q) es s)

  below_kept : (x : K) (bs : List Bool) (es : List (K × V)) → T (below_all cmp x es) → T (below_all cmp x (items_where_true bs es))
  below_kept x [] es h = tt
  below_kept x (b ∷ bs) [] h = tt
  below_kept x (true ∷ bs) (e ∷ es) h = let t = both_pass _ _ h in joined _ _ t.0 (below_kept x bs es t.1)
  below_kept x (false ∷ bs) (e ∷ es) h = below_kept x bs es (both_pass _ _ h).1

  pub sorted_kept : (bs : List Bool) (es : List (K × V)) → T (is_sorted cmp es) → T (is_sorted cmp (items_where_true bs es))
  sorted_kept [] es h = tt
  sorted_kept (b ∷ bs) [] h = tt
  sorted_kept (true ∷ bs) (e ∷ es) h = let t = both_pass _ _ h in joined _ _ (below_kept e.0 bs es t.0) (sorted_kept bs es t.1)
  sorted_kept (false ∷ bs) (e ∷ es) h = sorted_kept bs es (both_pass _ _ h).1
