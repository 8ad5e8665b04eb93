-- The first entry of a map that passes, by look-ups.
use Rattle.std.proofs.Common.{◌≡◌, Bool, true, false, Option, None, Some, refl, sym, ap, ◌∙◌}
use Rattle.std.proofs.lemmas.Option.{same_Some}
use Rattle.std.proofs.lemmas.Bool.{both_ways}
use Rattle.std.specs.declared.cmp.Ordering.{Ordering}
use Rattle.std.specs.declared.cmp.Ordering.TheVariants.{Less, Equal, Greater}
use Rattle.std.specs.Cmp.{IsTotalOrder}
use Rattle.std.specs.FinMap as fm
use Rattle.std.specs.FinMap.{FinMap, IsAntisymmetric}
use Rattle.std.specs.Option.{is_some}
use Rattle.std.specs.Ordering.{is_lt, ordering_reverse}
use Rattle.sorted_map.proofs.Orderings.{not_less}
use Rattle.sorted_map.specs.Entries.{first_where}
use Rattle.sorted_map.specs.First.{first_held, first_least, first_none, first_passes}

module _ {K V : Type 0} {R : K → K → Ordering} (order : IsTotalOrder R) (exact : IsAntisymmetric R) (passes : K → V → Bool)
    (m : FinMap R V) where
  -- where none is less, it is the first
  abbrev pub IsLeast : K → Type 0
  IsLeast k = (key : K) (value : V) → fm.get m key ≡ Some value → passes key value ≡ true → is_lt (R key k) ≡ false

  abbrev pub NonePasses : Type 0
  NonePasses = (key : K) (value : V) → fm.get m key ≡ Some value → passes key value ≡ false

  pub record Found (k : K) (v : V) : Type 0 where
    pub held : fm.get m k ≡ Some v
    pub passing : passes k v ≡ true
    pub least : IsLeast k

  pub found : (e : K × V) → first_where passes (fm.entries m) ≡ Some e → Found e.0 e.1
  found e h = record {
    held = fm.get-entries m e.0 ∙ first_held order exact passes (fm.entries m) e (fm.entries_sorted m) h;
    passing = first_passes order exact passes (fm.entries m) e h;
    least = λ key value g p. not_less (R key e.0)
        (first_least order exact passes (fm.entries m) e key value (fm.entries_sorted m) h (sym (fm.get-entries m key) ∙ g) p);
  }

  pub none_found : first_where passes (fm.entries m) ≡ None → NonePasses
  none_found h key value g = first_none order exact passes (fm.entries m) key value h (sym (fm.get-entries m key) ∙ g)

  pub first_is : (k : K) (v : V) → Found k v → first_where passes (fm.entries m) ≡ Some (k, v)
  first_is k v f = go (first_where passes (fm.entries m)) refl
    where
      go : (o : Option (K × V)) → first_where passes (fm.entries m) ≡ o → o ≡ Some (k, v)
      go None h = absurd (both_ways (passes k v) (none_found h k v f.held) f.passing)
      go (Some e) h = same (R e.0 k) refl
        where
          g : Found e.0 e.1
          g = found e h

          both : e.0 ≡ k → Some e ≡ Some (k, v)
          both x = let y : e.1 ≡ v = same_Some e.1 v (sym g.held ∙ ap (fm.get m) x ∙ f.held) in λ i. Some (x i, y i)

          same : (a : Ordering) → R e.0 k ≡ a → Some e ≡ Some (k, v)
          same Less h = absurd (both_ways (is_lt (R e.0 k)) (f.least e.0 e.1 g.held g.passing) (ap is_lt h))
          same Equal h = both (exact e.0 k h)
          same Greater h =
              absurd (both_ways (is_lt (R k e.0)) (g.least k v f.held f.passing) (ap is_lt (order.antisymm k e.0 ∙ ap ordering_reverse h)))

  pub none_is : NonePasses → first_where passes (fm.entries m) ≡ None
  none_is n = go (first_where passes (fm.entries m)) refl
    where
      go : (o : Option (K × V)) → first_where passes (fm.entries m) ≡ o → o ≡ None
      go None h = refl
      go (Some e) h = let g = found e h in absurd (both_ways (passes e.0 e.1) (n e.0 e.1 g.held) g.passing)

  -- whether there is one
  pub is_there : (k : K) (v : V) → fm.get m k ≡ Some v → passes k v ≡ true → is_some (first_where passes (fm.entries m)) ≡ true
  is_there k v g p = go (first_where passes (fm.entries m)) refl
    where
      go : (o : Option (K × V)) → first_where passes (fm.entries m) ≡ o → is_some o ≡ true
      go None h = absurd (both_ways (passes k v) (none_found h k v g) p)
      go (Some e) h = refl
