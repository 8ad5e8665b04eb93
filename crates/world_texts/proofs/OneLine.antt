-- Of entries by connection and node, those of one node: their values, by connection alone.
use Rattle.std.proofs.Common.{◌≡◌, ◌≢◌, ◌&&◌, Bool, true, false, cond, T, List, [], ◌∷◌, ◌++◌, map}
use Rattle.std.proofs.Common.{Option, None, Some, unwrap_or, refl, sym, ap, subst, ◌∙◌}
use Rattle.std.proofs.lemmas.Bool.{and_parts}
use Rattle.std.proofs.lemmas.Cmp.{tied_itself}
use Rattle.std.proofs.lemmas.List.{map-append}
use Rattle.std.specs.Cmp.{IsTotalOrder}
use Rattle.std.specs.FinMap.{IsAntisymmetric, find, is_sorted}
use Rattle.std.specs.FinMap.Entries.{below_all, find-where_key, is_sorted-where_key, same_entries, where_key}
use Rattle.std.specs.List.{flat_map}
use Rattle.std.specs.Ordering.{eq_by_cmp, is_eq, is_lt, ordering_then}
use Rattle.std.specs.declared.cmp.Ordering.{Ordering}
use Rattle.std.specs.declared.cmp.Ordering.TheVariants.{Less, Equal, Greater}
use Rattle.sorted_map.proofs.Orderings.{equal_of, then_equal}
use Rattle.sorted_map.specs.Facts.{both_pass, find_below_all, joined}

tied_then : (a b : Ordering) → b ≡ Equal → ordering_then a b ≡ a
tied_then Less b h = refl
tied_then Equal b h = h
tied_then Greater b h = refl

-- entries by a key and a name, of which some go to one name, by a test of the key
module _ {K N V W : Type 0} {key_cmp : K → K → Ordering} {name_cmp : N → N → Ordering}
    (total : IsTotalOrder key_cmp) (exact : IsAntisymmetric key_cmp)
    (name_total : IsTotalOrder name_cmp) (name_exact : IsAntisymmetric name_cmp)
    (f : V → W) (name : N) (passes : K → Bool) where
  abbrev pub by_both : K × N → K × N → Ordering
  by_both a b = ordering_then (key_cmp a.0 b.0) (name_cmp a.1 b.1)

  abbrev pub Sent : Type 0
  Sent = (K × N) × List V

  abbrev pub Own : Type 0
  Own = K × List W

  abbrev pub goes : K × N → Bool
  goes place = eq_by_cmp name_cmp place.1 name && passes place.0

  abbrev pub on : Sent → List V
  on entry = cond (goes entry.0) entry.1 []

  -- an entry of its own, unless nothing goes there
  abbrev pub with_own : K → List V → List Own → List Own
  with_own key [] rest = rest
  with_own key (item ∷ items) rest = (key, map f (item ∷ items)) ∷ rest

  abbrev pub own : List Sent → List Own
  own [] = []
  own (entry ∷ rest) = cond (goes entry.0) (with_own entry.0.0 entry.1 (own rest)) (own rest)

  -- ---- their values

  value_first : (key : K) (items : List V) (rest : List Own)
      → flat_map (λ e. e.1) (with_own key items rest) ≡ map f items ++ flat_map (λ e. e.1) rest
  value_first key [] rest = refl
  value_first key (item ∷ items) rest = refl

  values : (sent : List Sent) → flat_map (λ e. e.1) (own sent) ≡ map f (flat_map on sent)
  values [] = refl
  values (entry ∷ rest) = go (goes entry.0) (values rest)
    where
      go : (b : Bool) → flat_map (λ e. e.1) (own rest) ≡ map f (flat_map on rest)
          → flat_map (λ e. e.1) (cond b (with_own entry.0.0 entry.1 (own rest)) (own rest)) ≡ map f (cond b entry.1 [] ++ flat_map on rest)
      go true h =
          value_first entry.0.0 entry.1 (own rest) ∙ ap (λ (l : List W). map f entry.1 ++ l) h
          ∙ sym (map-append f entry.1 (flat_map on rest))
      go false h = h

  -- ---- their order

  of_name : (place : K × N) → goes place ≡ true → place.1 ≡ name
  of_name place g = name_exact place.1 name (equal_of _ (and_parts _ _ g).0)

  by_key : (key : K) (place : K × N) → goes place ≡ true → by_both (key, name) place ≡ key_cmp key place.0
  by_key key place g =
      tied_then (key_cmp key place.0) (name_cmp name place.1) (ap (name_cmp name) (of_name place g) ∙ tied_itself name_total name)

  below : (key : K) (sent : List Sent) → T (below_all by_both (key, name) sent) → T (below_all key_cmp key (own sent))
  below key [] h = tt
  below key (entry ∷ rest) h = go (goes entry.0) refl entry.1 (below key rest (both_pass _ _ h).1)
    where
      go : (b : Bool) → goes entry.0 ≡ b → (items : List V) → T (below_all key_cmp key (own rest))
          → T (below_all key_cmp key (cond b (with_own entry.0.0 items (own rest)) (own rest)))
      go true g [] r = r
      go true g (item ∷ items) r = joined _ _ (subst (λ o. T (is_lt o)) (by_key key entry.0 g) (both_pass _ _ h).0) r
      go false g items r = r

  sorted : (sent : List Sent) → T (is_sorted by_both sent) → T (is_sorted key_cmp (own sent))
  sorted [] h = tt
  sorted (entry ∷ rest) h = go (goes entry.0) refl entry.1 (sorted rest (both_pass _ _ h).1)
    where
      go : (b : Bool) → goes entry.0 ≡ b → (items : List V) → T (is_sorted key_cmp (own rest))
          → T (is_sorted key_cmp (cond b (with_own entry.0.0 items (own rest)) (own rest)))
      go true g [] r = r
      go true g (item ∷ items) r =
          let is : entry.0 ≡ (entry.0.0, name) = λ i. (entry.0.0, of_name entry.0 g i) in
          joined _ _ (below entry.0.0 rest (subst (λ place. T (below_all by_both place rest)) is (both_pass _ _ h).0)) r
      go false g items r = r

  -- ---- the value of a key

  abbrev full : Option (List V) → Option (List W)
  full None = None
  full (Some []) = None
  full (Some (item ∷ items)) = Some (map f (item ∷ items))

  abbrev Found : K → List Sent → Type 0
  Found key sent = find key_cmp key (own sent) ≡ cond (passes key) (full (find by_both (key, name) sent)) None

  tied : (key : K) → by_both (key, name) (key, name) ≡ Equal
  tied key = tied_then (key_cmp key key) (name_cmp name name) (tied_itself name_total name) ∙ tied_itself total key

  found_first : (key : K) (items : List V) (rest : List Sent) → T (below_all by_both (key, name) rest) → Found key (((key, name), items) ∷ rest)
  found_first key items rest h =
      ap (λ o. find key_cmp key (cond (is_eq o && passes key) (with_own key items (own rest)) (own rest))) (tied_itself name_total name)
      ∙ go (passes key) items
      ∙ ap (λ o. cond (passes key) (full (cond (is_eq o) (Some items) (find by_both (key, name) rest))) None) (sym (tied key))
    where
      none : find key_cmp key (own rest) ≡ None
      none = find_below_all key_cmp key (own rest) (below key rest h)

      go : (b : Bool) (items : List V)
          → find key_cmp key (cond b (with_own key items (own rest)) (own rest)) ≡ cond b (full (Some items)) None
      go true [] = none
      go true (item ∷ items) = ap (λ o. cond (is_eq o) (Some (map f (item ∷ items))) (find key_cmp key (own rest))) (tied_itself total key)
      go false items = none

  found_later : (key : K) (entry : Sent) (rest : List Sent) → eq_by_cmp by_both (key, name) entry.0 ≡ false → Found key rest
      → Found key (entry ∷ rest)
  found_later key entry rest other h =
      go (goes entry.0) refl entry.1 ∙ h
      ∙ ap (λ b. cond (passes key) (full (cond b (Some entry.1) (find by_both (key, name) rest))) None) (sym other)
    where
      go : (b : Bool) → goes entry.0 ≡ b → (items : List V)
          → find key_cmp key (cond b (with_own entry.0.0 items (own rest)) (own rest)) ≡ find key_cmp key (own rest)
      go true g [] = refl
      go true g (item ∷ items) =
          ap (λ b. cond b (Some (map f (item ∷ items))) (find key_cmp key (own rest))) (ap is_eq (sym (by_key key entry.0 g)) ∙ other)
      go false g items = refl

  found : (key : K) (sent : List Sent) → T (is_sorted by_both sent) → Found key sent
  found key [] h = go (passes key)
    where
      nothing : Option (List W)
      nothing = None

      go : (b : Bool) → nothing ≡ cond b nothing nothing
      go true = refl
      go false = refl
  found key (entry ∷ rest) h = go (eq_by_cmp by_both (key, name) entry.0) refl (found key rest (both_pass _ _ h).1)
    where
      go : (b : Bool) → eq_by_cmp by_both (key, name) entry.0 ≡ b → Found key rest → Found key (entry ∷ rest)
      go true e r =
          let both = then_equal (key_cmp key entry.0.0) (name_cmp name entry.0.1) (equal_of _ e) in
          let one : key ≡ entry.0.0 = exact key entry.0.0 both.0 in
          let other : name ≡ entry.0.1 = name_exact name entry.0.1 both.1 in
          let is : (key, name) ≡ entry.0 = λ i. (one i, other i) in
          subst (λ (place : K × N). Found key ((place, entry.1) ∷ rest)) is
          (found_first key entry.1 rest (subst (λ place. T (below_all by_both place rest)) (sym is) (both_pass _ _ h).0))
      go false e r = found_later key entry rest e r

  -- ---- entries of its own that have the same values by key

  full_is : (o : Option (List W)) (sent : Option (List V)) → o ≢ Some [] → unwrap_or o [] ≡ map f (unwrap_or sent []) → o ≡ full sent
  full_is None None h e = refl
  full_is None (Some []) h e = refl
  full_is None (Some (item ∷ items)) h e = cc
  full_is (Some held) None h e = absurd (h (ap (λ l. Some l) e))
  full_is (Some held) (Some []) h e = absurd (h (ap (λ l. Some l) e))
  full_is (Some held) (Some (item ∷ items)) h e = ap (λ l. Some l) e

  abbrev pub passing : Own → List W
  passing entry = cond (passes entry.0) entry.1 []

  passing_values : (line : List Own) → flat_map passing line ≡ flat_map (λ e. e.1) (where_key key_cmp passes line)
  passing_values [] = refl
  passing_values (entry ∷ rest) = go (passes entry.0) (passing_values rest)
    where
      go : (b : Bool) → flat_map passing rest ≡ flat_map (λ e. e.1) (where_key key_cmp passes rest)
          → cond b entry.1 [] ++ flat_map passing rest
          ≡ flat_map (λ e. e.1) (cond b (entry ∷ where_key key_cmp passes rest) (where_key key_cmp passes rest))
      go true h = ap (λ (l : List W). entry.1 ++ l) h
      go false h = h

  pub same_values : (sent : List Sent) (line : List Own) → T (is_sorted by_both sent) → T (is_sorted key_cmp line)
      → ((key : K) → find key_cmp key line ≢ Some [])
      → ((key : K) → passes key ≡ true → unwrap_or (find key_cmp key line) [] ≡ map f (unwrap_or (find by_both (key, name) sent) []))
      → flat_map passing line ≡ map f (flat_map on sent)
  same_values sent line s l full_line same =
      passing_values line
      ∙ ap (flat_map (λ (e : Own). e.1))
      (same_entries key_cmp total exact (where_key key_cmp passes line) (own sent) (is_sorted-where_key key_cmp passes line l)
      (sorted sent s) same_found)
      ∙ values sent
    where
      same_found : (key : K) → find key_cmp key (where_key key_cmp passes line) ≡ find key_cmp key (own sent)
      same_found key =
          find-where_key key_cmp passes key (λ x t. ap passes (sym (exact key x t))) line ∙ go (passes key) refl ∙ sym (found key sent s)
        where
          go : (b : Bool) → passes key ≡ b
              → cond b (find key_cmp key line) None ≡ cond b (full (find by_both (key, name) sent)) None
          go true e = full_is (find key_cmp key line) (find by_both (key, name) sent) (full_line key) (same key e)
          go false e = refl
