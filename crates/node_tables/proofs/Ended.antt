-- One connection after the other is gone.
use Rattle.std.proofs.Common.{◌≡◌, Bool, true, false, cond, List, [], ◌∷◌, ◌++◌, Option, None, Some, is_some, refl, sym, ap, subst, ◌∙◌}
use Rattle.std.specs.List.{filter}
use Rattle.std.specs.Ordering.{is_lt, ordering_reverse}
use Rattle.sorted_map.proofs.Orderings.{equal_of}
use Rattle.std.specs.Option.{option_map, option_or}
use Rattle.std.specs.FinMap.{find, is_sorted}
use Rattle.std.specs.FinMap.Entries.{below_all}
use Rattle.std.specs.Cmp.Derive.{both_true}
use Rattle.std.proofs.lemmas.Bool.{and_parts, true≢false}
use Rattle.conn_core.specs.declared.side.Side.{Side}
use Rattle.conn_core.specs.declared.standing.Standing.TheVariants as standing
use Rattle.dist_model.proofs.Calls.{by_test}
use Rattle.dist_model.proofs.Keys.{same_trunk, same_trunk_refl, same_trunk_true, trunk_total}
use Rattle.dist_model.specs.Sides.{Gone, TrunkSide, in_state}
use Rattle.erl_names.specs.Order.{trunk_cmp}
use Rattle.erl_names.specs.declared.trunk.TrunkId.{TrunkId}
use Rattle.node_tables.proofs.Buried.{find_both}
use Rattle.node_tables.proofs.Placed.{IsSorted}
use Rattle.node_tables.specs.Apart.{AreApart, AreBuried}
use Rattle.node_tables.specs.Runs.{IsBuried, gone_at}
use Rattle.node_tables.specs.Standings.{entries_of, lost_place, side_of}
use Rattle.node_tables.specs.declared.run.Run.{Run}

pub none_kept : {A : Type 0} (xs : List A) → filter (λ x. false) xs ≡ []
none_kept [] = refl
none_kept (x ∷ xs) = none_kept xs

module _ (xs : List Side) (x : Side) where
  pub record Last : Type 0 where
    pub sorted : IsSorted xs
    pub apart : find trunk_cmp x.trunk (entries_of xs) ≡ None

  below_front : (t : TrunkId) (ys : List Side) → below_all trunk_cmp t (entries_of (ys ++ x ∷ [])) ≡ true
      → (below_all trunk_cmp t (entries_of ys) ≡ true) × (is_lt (trunk_cmp t x.trunk) ≡ true)
  below_front t [] h = (refl, (and_parts (is_lt (trunk_cmp t x.trunk)) _ h).0)
  below_front t (y ∷ ys) h =
      let p = and_parts (is_lt (trunk_cmp t y.trunk)) _ h in let q = below_front t ys p.1 in (both_true p.0 q.0, q.1)

-- of sides in order the last one is none of the others
pub last_of : (xs : List Side) (x : Side) → IsSorted (xs ++ x ∷ []) → Last xs x
last_of [] x s = record { sorted = refl; apart = refl }
last_of (y ∷ ys) x s =
    let p = and_parts (below_all trunk_cmp y.trunk (entries_of (ys ++ x ∷ []))) _ s in
    let b = below_front ys x y.trunk ys p.0 in
    let r = last_of ys x p.1 in
    record {
      sorted = both_true b.0 r.sorted;
      apart = by_test _ (same_trunk x.trunk y.trunk)
          (λ t. absurd (true≢false (sym b.1 ∙ ap is_lt (trunk_total.antisymm y.trunk x.trunk ∙ ap ordering_reverse (equal_of _ t)))))
          (λ t. ap (λ c. cond c (Some (side_of y)) (find trunk_cmp x.trunk (entries_of ys))) t ∙ r.apart);
    }

module _ (held xs : List Side) (x gone_x : Side) (gone : List Run) (is : held ≡ xs ++ x ∷ []) (s : IsSorted held)
    (a : AreApart held gone) (e : gone_x ≡ record x { standing = standing.Gone }) where
  split : Last xs x
  split = last_of xs x (subst IsSorted is s)

  pub rest_sorted : IsSorted xs
  rest_sorted = split.sorted

  find_split : (t : TrunkId) → find trunk_cmp t (entries_of held)
      ≡ option_or (find trunk_cmp t (entries_of xs)) (cond (same_trunk t x.trunk) (Some (side_of x)) None)
  find_split t = ap (λ l. find trunk_cmp t (entries_of l)) is ∙ find_both t xs (x ∷ [])

  same_key : gone_x.trunk ≡ x.trunk
  same_key = ap (λ (y : Side). y.trunk) e

  pub not_gone_yet : gone_at gone gone_x.trunk ≡ None
  not_gone_yet = ap (gone_at gone) same_key ∙ a x.trunk (ap is_some (find_split x.trunk ∙ ap (λ o. option_or o (cond (same_trunk x.trunk x.trunk) (Some (side_of x)) None)) split.apart
      ∙ ap (λ c. cond c (Some (side_of x)) None) (same_trunk_refl x.trunk)))

  module _ (more : List Run) (b : IsBuried gone_x gone more) where
    more_at : (t : TrunkId) → gone_at more t ≡ cond (same_trunk t x.trunk) (Some (side_of gone_x)) (gone_at gone t)
    more_at t = b t ∙ ap (λ u. cond (same_trunk t u) (Some (side_of gone_x)) (gone_at gone t)) same_key

    pub rest_apart : AreApart xs more
    rest_apart t h = more_at t ∙ by_test _ (same_trunk t x.trunk)
        (λ k. absurd (true≢false (sym h ∙ ap is_some (ap (λ u. find trunk_cmp u (entries_of xs)) (same_trunk_true t x.trunk k) ∙ split.apart))))
        (λ k. ap (λ c. cond c (Some (side_of gone_x)) (gone_at gone t)) k
        ∙ a t (ap is_some (find_split t) ∙ first (find trunk_cmp t (entries_of xs)) (cond (same_trunk t x.trunk) (Some (side_of x)) None) h))
      where
        first : (o p : Option TrunkSide) → is_some o ≡ true → is_some (option_or o p) ≡ true
        first None p k = cc
        first (Some v) p k = refl

    pub rest_buried : AreBuried held gone xs more
    rest_buried t =
        ap (λ o. option_map (in_state Gone) (option_or (find trunk_cmp t (entries_of xs)) o)) (more_at t)
        ∙ go (find trunk_cmp t (entries_of xs)) (same_trunk t x.trunk)
        ∙ sym (ap (λ o. option_map (in_state Gone) (option_or o (gone_at gone t))) (find_split t))
      where
        go : (o : Option TrunkSide) (c : Bool)
            → option_map (in_state Gone) (option_or o (cond c (Some (side_of gone_x)) (gone_at gone t)))
            ≡ option_map (in_state Gone) (option_or (option_or o (cond c (Some (side_of x)) None)) (gone_at gone t))
        go (Some v) c = refl
        go None true = ap (λ (y : Side). Some (in_state Gone (side_of y))) e
        go None false = refl

-- ---- and none is left

module _ (held : List Side) (none : held ≡ []) where
  pub none_sorted : IsSorted held
  none_sorted = ap (λ l. is_sorted trunk_cmp (entries_of l)) none

  pub none_apart : (gone : List Run) → AreApart held gone
  none_apart gone t h = absurd (true≢false (sym h ∙ ap (λ l. is_some (find trunk_cmp t (entries_of l))) none))

  pub none_lost : None ≡ lost_place held
  none_lost = sym (ap lost_place none)
