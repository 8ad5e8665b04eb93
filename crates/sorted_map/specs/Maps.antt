-- What is done to the entries, said of the finite map that they make.
use Rattle.std.proofs.Common.{◌≡◌, Bool, true, false, cond, not, T, List, [], ◌∷◌, Option, None, Some, is_some, refl, sym, ap, subst, ◌∙◌}
use Rattle.std.specs.declared.cmp.Ordering.{Ordering}
use Rattle.std.specs.declared.cmp.Ordering.TheVariants.{Less, Equal, Greater}
use Rattle.std.specs.Ordering.{is_lt, is_eq, eq_by_cmp}
use Rattle.std.specs.List.{filter}
use Rattle.std.specs.Cmp.{IsTotalOrder, eq_by_cmp_equiv}
use Rattle.std.specs.FinMap as map
use Rattle.std.specs.FinMap.{IsAntisymmetric, find, put, is_sorted}
use Rattle.std.specs.FinMap.Entries.{below_all, is_sorted-put, is_sorted-where_key, find-where_key}
use Rattle.sorted_map.specs.Facts.{both_pass, joined, find_below_all}
use Rattle.sorted_map.specs.Entries.{without, changed}

turned : {A : Type 0} (b : Bool) (x y : A) → cond (not b) x y ≡ cond b y x
turned true x y = refl
turned false x y = refl

module _ {K V : Type 0} {cmp : K → K → Ordering} (order : IsTotalOrder cmp) where
  pub sorted_put : (key : K) (value : V) (entries : List (K × V)) → T (is_sorted cmp entries)
      → T (is_sorted cmp (put cmp key value entries))
  sorted_put key value entries h = is_sorted-put cmp order key value entries h

  pub sorted_changed : (key : K) (value : V) (entries : List (K × V)) → T (is_sorted cmp entries)
      → T (is_sorted cmp (changed cmp key value entries))
  sorted_changed key value entries h = go (is_some (find cmp key entries))
    where
      go : (b : Bool) → T (is_sorted cmp (cond b (put cmp key value entries) entries))
      go true = sorted_put key value entries h
      go false = h

  pub map_put : (key : K) (value : V) (entries : List (K × V)) → T (is_sorted cmp entries)
      → map.from_sorted {R = cmp} (put cmp key value entries) ≡ map.insert (map.from_sorted {R = cmp} entries) key value
  map_put key value entries h = map.same_entries_map _ _ (
      map.entries-from_sorted cmp (put cmp key value entries) (sorted_put key value entries h)
      ∙ ap (put cmp key value) (sym (map.entries-from_sorted cmp entries h))
      ∙ sym (map.entries-insert order (map.from_sorted entries) key value))

  pub map_changed : (key : K) (value : V) (entries : List (K × V)) → T (is_sorted cmp entries)
      → map.from_sorted {R = cmp} (changed cmp key value entries) ≡ cond
      (is_some (map.get (map.from_sorted {R = cmp} entries) key))
      (map.insert (map.from_sorted {R = cmp} entries) key value) (map.from_sorted {R = cmp} entries)
  map_changed key value entries h =
      go (is_some (find cmp key entries)) ∙ ap
      (λ o. cond (is_some o) (map.insert (map.from_sorted {R = cmp} entries) key value) (map.from_sorted {R = cmp} entries))
      (sym (map.get-from_sorted cmp entries key h))
    where
      go : (b : Bool) → map.from_sorted {R = cmp} (cond b (put cmp key value entries) entries)
          ≡ cond b (map.insert (map.from_sorted {R = cmp} entries) key value) (map.from_sorted {R = cmp} entries)
      go true = map_put key value entries h
      go false = refl

  module _ (exact : IsAntisymmetric cmp) where
    pub sorted_without : (key : K) (entries : List (K × V)) → T (is_sorted cmp entries) → T (is_sorted cmp (without cmp key entries))
    sorted_without key entries h = is_sorted-where_key cmp (λ held. not (eq_by_cmp cmp key held)) entries h

    pub map_without : (key : K) (entries : List (K × V)) → T (is_sorted cmp entries)
        → map.from_sorted {R = cmp} (without cmp key entries) ≡ map.remove (map.from_sorted {R = cmp} entries) key
    map_without key entries h = map.same_map order exact _ _ (λ x.
        map.get-from_sorted cmp (without cmp key entries) x (sorted_without key entries h)
        ∙ find-where_key cmp (λ held. not (eq_by_cmp cmp key held)) x
        (λ y t. ap (λ k. not (eq_by_cmp cmp key k)) (sym (exact x y t))) entries
        ∙ turned (eq_by_cmp cmp key x) _ _
        ∙ ap (λ b. cond b None (find cmp x entries)) ((eq_by_cmp_equiv order).symm key x)
        ∙ sym (map.get-remove order (map.from_sorted {R = cmp} entries) key x
        ∙ ap (cond (eq_by_cmp cmp x key) None) (map.get-from_sorted cmp entries x h)))

    -- the entries whose values pass no test
    module _ (goes : V → Bool) where
      abbrev stays : K × V → Bool
      stays e = not (goes e.1)

      -- the test of what a key has
      abbrev has_one : Option V → Bool
      has_one None = false
      has_one (Some value) = goes value

      below_kept : (key : K) (entries : List (K × V)) → T (below_all cmp key entries) → T (below_all cmp key (filter stays entries))
      below_kept key [] h = tt
      below_kept key (e ∷ rest) h = let t = both_pass _ _ h in go (stays e) (below_kept key rest t.1)
        where
          go : (b : Bool) → T (below_all cmp key (filter stays rest))
              → T (below_all cmp key (cond b (e ∷ filter stays rest) (filter stays rest)))
          go true k = joined _ _ (both_pass (is_lt (cmp key e.0)) _ h).0 k
          go false k = k

      pub sorted_kept : (entries : List (K × V)) → T (is_sorted cmp entries) → T (is_sorted cmp (filter stays entries))
      sorted_kept [] h = tt
      sorted_kept (e ∷ rest) h = let t = both_pass _ _ h in go (stays e) (sorted_kept rest t.1)
        where
          go : (b : Bool) → T (is_sorted cmp (filter stays rest)) → T (is_sorted cmp (cond b (e ∷ filter stays rest) (filter stays rest)))
          go true k = joined _ _ (below_kept e.0 rest (both_pass _ (is_sorted cmp rest) h).0) k
          go false k = k

      same_key : (a b : K) → eq_by_cmp cmp a b ≡ true → a ≡ b
      same_key a b h = go (cmp a b) refl h
        where
          go : (o : Ordering) → cmp a b ≡ o → is_eq o ≡ true → a ≡ b
          go Less e t = cc
          go Equal e t = exact a b e
          go Greater e t = cc

      kept_find : (key : K) (entries : List (K × V)) → T (is_sorted cmp entries)
          → find cmp key (filter stays entries) ≡ cond (not (has_one (find cmp key entries))) (find cmp key entries) None
      kept_find key [] h = refl
      kept_find key (e ∷ rest) h = let t = both_pass _ _ h in go (eq_by_cmp cmp key e.0) refl (goes e.1) refl (kept_find key rest t.1)
        where
          none : eq_by_cmp cmp key e.0 ≡ true → find cmp key (filter stays rest) ≡ None
          none i =
              find_below_all cmp key (filter stays rest) (subst (λ x. T (below_all cmp x (filter stays rest)))
              (sym (same_key key e.0 i)) (below_kept e.0 rest (both_pass _ (is_sorted cmp rest) h).0))

          go : (b : Bool) → eq_by_cmp cmp key e.0 ≡ b → (g : Bool) → goes e.1 ≡ g
              → find cmp key (filter stays rest) ≡ cond (not (has_one (find cmp key rest))) (find cmp key rest) None
              → find cmp key (cond (not g) (e ∷ filter stays rest) (filter stays rest))
              ≡ cond (not (has_one (cond b (Some e.1) (find cmp key rest)))) (cond b (Some e.1) (find cmp key rest)) None
          go true i true k f = none i ∙ sym (ap (λ x. cond (not x) (Some e.1) None) k)
          go true i false k f =
              ap (λ b. cond b (Some e.1) (find cmp key (filter stays rest))) i ∙ sym (ap (λ x. cond (not x) (Some e.1) None) k)
          go false i true k f = f
          go false i false k f = ap (λ b. cond b (Some e.1) (find cmp key (filter stays rest))) i ∙ f

      kept_get : (entries : List (K × V)) → T (is_sorted cmp entries) → (key : K)
          → map.get (map.from_sorted {R = cmp} (filter stays entries)) key ≡ cond
          (not (has_one (map.get (map.from_sorted {R = cmp} entries) key)))
          (map.get (map.from_sorted {R = cmp} entries) key) None
      kept_get entries h key =
          map.get-from_sorted cmp (filter stays entries) key (sorted_kept entries h) ∙ kept_find key entries h
          ∙ ap (λ o. cond (not (has_one o)) o None) (sym (map.get-from_sorted cmp entries key h))

      pub map_kept : (test : Option V → Bool) → test None ≡ false → ((value : V) → test (Some value) ≡ goes value)
          → (entries : List (K × V)) → T (is_sorted cmp entries)
          → map.from_sorted {R = cmp} (filter stays entries)
          ≡ map.retain_keys (map.from_sorted {R = cmp} entries) (λ key. not (test (map.get (map.from_sorted {R = cmp} entries) key)))
      map_kept test none some entries h = map.same_map order exact _ _ (λ key.
          kept_get entries h key ∙ ap (λ b. cond (not b) (map.get (map.from_sorted {R = cmp} entries) key) None)
          (same (map.get (map.from_sorted {R = cmp} entries) key))
          ∙ sym
          (map.get-retain_keys (map.from_sorted {R = cmp} entries) (λ k. not (test (map.get (map.from_sorted {R = cmp} entries) k))) key
          (λ x t. ap (λ k. not (test (map.get (map.from_sorted {R = cmp} entries) k))) (sym (exact key x t)))))
        where
          same : (o : Option V) → has_one o ≡ test o
          same None = sym none
          same (Some value) = sym (some value)
