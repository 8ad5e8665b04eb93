-- The first entry that passes is that of the least key that passes.
use Rattle.std.proofs.Common.{◌≡◌, ◌≢◌, ℕ, zero, suc, take, drop, Bool, true, false, cond, T, List}
use Rattle.std.proofs.Common.{[], ◌∷◌, Option, None, Some, unwrap_or, refl, sym, ap, subst, ◌∙◌}
use Rattle.std.specs.declared.cmp.Ordering.{Ordering}
use Rattle.std.specs.declared.cmp.Ordering.TheVariants.{Less, Equal, Greater}
use Rattle.std.specs.Ordering.{is_eq, ordering_reverse, eq_by_cmp}
use Rattle.std.specs.Cmp.{IsTotalOrder}
use Rattle.std.proofs.lemmas.Cmp.{tied_itself}
use Rattle.std.specs.FinMap.{IsAntisymmetric, find, is_sorted}
use Rattle.std.specs.FinMap.Entries.{below_all}
use Rattle.sorted_map.specs.Facts.{both_pass, less}
use Rattle.sorted_map.specs.Entries.{first_where}

same_some : {A : Type 0} (x y : A) → Some x ≡ Some y → x ≡ y
same_some x y e = ap (λ o. unwrap_or o x) e

none_or_some : {A : Type 0} (x : A) (o : Option A) → o ≡ None → o ≡ Some x → ⊥
none_or_some x o h k = cc

true_or_false : (b : Bool) → b ≡ true → b ≡ false → ⊥
true_or_false b h k = cc

-- where none of the first entries passes, the search goes on behind them
pub goes_on : {K V : Type 0} (passes : K → V → Bool) (from : ℕ) (entries : List (K × V))
    → first_where passes (take from entries) ≡ None → first_where passes entries ≡ first_where passes (drop from entries)
goes_on passes zero entries h = refl
goes_on passes (suc from) [] h = refl
goes_on passes (suc from) (e ∷ rest) h = go (passes e.0 e.1) refl (goes_on passes from rest)
  where
    go : (b : Bool) → passes e.0 e.1 ≡ b
        → (first_where passes (take from rest) ≡ None → first_where passes rest ≡ first_where passes (drop from rest))
        → first_where passes (e ∷ rest) ≡ first_where passes (drop from rest)
    go true t k = absurd (none_or_some e _ h (ap (λ b. cond b (Some e) (first_where passes (take from rest))) t))
    go false t k =
        ap (λ b. cond b (Some e) (first_where passes rest)) t
        ∙ k (sym (ap (λ b. cond b (Some e) (first_where passes (take from rest))) t) ∙ h)

module _ {K V : Type 0} {cmp : K → K → Ordering} (order : IsTotalOrder cmp) (exact : IsAntisymmetric cmp) (passes : K → V → Bool) where
  abbrev behind_first : K × V → List (K × V) → Bool → Option (K × V)
  behind_first e rest b = cond b (Some e) (first_where passes rest)

  behind : (key : K) (entries : List (K × V)) (entry : K × V) → T (below_all cmp key entries)
      → first_where passes entries ≡ Some entry → cmp key entry.0 ≡ Less
  behind key [] entry s h = cc
  behind key (e ∷ rest) entry s h = go (passes e.0 e.1) refl (behind key rest entry (both_pass _ _ s).1)
    where
      go : (b : Bool) → passes e.0 e.1 ≡ b → (first_where passes rest ≡ Some entry → cmp key entry.0 ≡ Less) → cmp key entry.0 ≡ Less
      go true t k =
          subst (λ (x : K × V). cmp key x.0 ≡ Less) (same_some e entry (sym (ap (behind_first e rest) t) ∙ h)) (less _ (both_pass _ _ s).0)
      go false t k = k (sym (ap (behind_first e rest) t) ∙ h)

  pub first_held : (entries : List (K × V)) (entry : K × V) → T (is_sorted cmp entries)
      → first_where passes entries ≡ Some entry → find cmp entry.0 entries ≡ Some entry.1
  first_held [] entry s h = cc
  first_held (e ∷ rest) entry s h = go (passes e.0 e.1) refl (first_held rest entry (both_pass _ _ s).1)
    where
      go : (b : Bool) → passes e.0 e.1 ≡ b → (first_where passes rest ≡ Some entry → find cmp entry.0 rest ≡ Some entry.1)
          → find cmp entry.0 (e ∷ rest) ≡ Some entry.1
      go true t k =
          subst (λ (x : K × V). find cmp x.0 (e ∷ rest) ≡ Some x.1) (same_some e entry (sym (ap (behind_first e rest) t) ∙ h))
          (ap (λ o. cond (is_eq o) (Some e.1) (find cmp e.0 rest)) (tied_itself order e.0))
      go false t k =
          let later : first_where passes rest ≡ Some entry = sym (ap (behind_first e rest) t) ∙ h in
          let above : cmp entry.0 e.0 ≡ Greater =
          order.antisymm entry.0 e.0 ∙ ap ordering_reverse (behind e.0 rest entry (both_pass _ _ s).0 later) in
          ap (λ o. cond (is_eq o) (Some e.1) (find cmp entry.0 rest)) above ∙ k later

  pub first_passes : (entries : List (K × V)) (entry : K × V) → first_where passes entries ≡ Some entry → passes entry.0 entry.1 ≡ true
  first_passes [] entry h = cc
  first_passes (e ∷ rest) entry h = go (passes e.0 e.1) refl (first_passes rest entry)
    where
      go : (b : Bool) → passes e.0 e.1 ≡ b → (first_where passes rest ≡ Some entry → passes entry.0 entry.1 ≡ true)
          → passes entry.0 entry.1 ≡ true
      go true t k = subst (λ (x : K × V). passes x.0 x.1 ≡ true) (same_some e entry (sym (ap (behind_first e rest) t) ∙ h)) t
      go false t k = k (sym (ap (behind_first e rest) t) ∙ h)

  none_below : (key bound : K) (entries : List (K × V)) → cmp key bound ≡ Less → T (below_all cmp bound entries)
      → find cmp key entries ≡ None
  none_below key bound [] l s = refl
  none_below key bound (e ∷ rest) l s =
      let t = both_pass _ _ s in
      ap (λ o. cond (is_eq o) (Some e.1) (find cmp key rest)) (order.trans key bound e.0 l (less _ t.0)) ∙ none_below key bound rest l t.1

  tied_same : (a b : K) (o : Ordering) → cmp a b ≡ o → is_eq o ≡ true → a ≡ b
  tied_same a b Less e t = cc
  tied_same a b Equal e t = exact a b e
  tied_same a b Greater e t = cc

  -- an entry of the list is its first one, or one of the rest
  here_or_later : (e : K × V) (rest : List (K × V)) (key : K) (value : V) (P : Type 0) → find cmp key (e ∷ rest) ≡ Some value
      → (passes key value ≡ passes e.0 e.1 → P) → (find cmp key rest ≡ Some value → P) → P
  here_or_later e rest key value P f here later = go (eq_by_cmp cmp key e.0) refl
    where
      go : (b : Bool) → eq_by_cmp cmp key e.0 ≡ b → P
      go true t =
          let same : e.1 ≡ value = same_some e.1 value (sym (ap (λ b. cond b (Some e.1) (find cmp key rest)) t) ∙ f) in
          here (ap (passes key) (sym same) ∙ ap (λ k. passes k e.1) (tied_same key e.0 _ refl t))
      go false t = later (sym (ap (λ b. cond b (Some e.1) (find cmp key rest)) t) ∙ f)

  pub first_least : (entries : List (K × V)) (entry : K × V) (key : K) (value : V) → T (is_sorted cmp entries)
      → first_where passes entries ≡ Some entry
      → find cmp key entries ≡ Some value → passes key value ≡ true → cmp key entry.0 ≢ Less
  first_least [] entry key value s h f p l = cc
  first_least (e ∷ rest) entry key value s h f p l =
      go (passes e.0 e.1) refl (λ a b. first_least rest entry key value (both_pass _ _ s).1 a b p l)
    where
      go : (b : Bool) → passes e.0 e.1 ≡ b → (first_where passes rest ≡ Some entry → find cmp key rest ≡ Some value → ⊥) → ⊥
      go true t k =
          let is : e ≡ entry = same_some e entry (sym (ap (behind_first e rest) t) ∙ h) in
          let below : cmp key e.0 ≡ Less = subst (λ (x : K × V). cmp key x.0 ≡ Less) (sym is) l in
          none_or_some value _
          (ap (λ o. cond (is_eq o) (Some e.1) (find cmp key rest)) below ∙ none_below key e.0 rest below (both_pass _ _ s).0) f
      go false t k =
          here_or_later e rest key value ⊥ f (λ same. true_or_false _ p (same ∙ t)) (k (sym (ap (behind_first e rest) t) ∙ h))

  pub first_none : (entries : List (K × V)) (key : K) (value : V) → first_where passes entries ≡ None
      → find cmp key entries ≡ Some value → passes key value ≡ false
  first_none [] key value h f = cc
  first_none (e ∷ rest) key value h f = go (passes e.0 e.1) refl (first_none rest key value)
    where
      go : (b : Bool) → passes e.0 e.1 ≡ b
          → (first_where passes rest ≡ None → find cmp key rest ≡ Some value → passes key value ≡ false)
          → passes key value ≡ false
      go true t k = absurd (none_or_some e _ h (ap (behind_first e rest) t))
      go false t k =
          here_or_later e rest key value (passes key value ≡ false) f (λ same. same ∙ t) (k (sym (ap (behind_first e rest) t) ∙ h))
