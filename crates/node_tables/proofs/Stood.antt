-- A side that was found stands otherwise: in its place, or with those that are gone.
use Rattle.std.proofs.Common.{◌≡◌, ℕ, true, false, List, get_or, set, is_some, None, Some, refl, sym, ap, subst, ◌∙◌}
use Rattle.std.specs.List.{remove}
use Rattle.std.specs.FinMap as fm
use Rattle.std.specs.FinMap.{find, put}
use Rattle.conn_core.specs.declared.side.Side.{Side}
use Rattle.conn_core.specs.declared.standing.Standing.{Standing}
use Rattle.dist_model.specs.Names.{Name}
use Rattle.dist_model.specs.Sides.{is_up}
use Rattle.erl_names.specs.Order.{name_cmp, trunk_cmp}
use Rattle.erl_names.specs.declared.trunk.TrunkId.{TrunkId}
use Rattle.sorted_map.specs.Entries.{without, IsFoundAt}
use Rattle.node_tables.proofs.Placed.{IsSorted, open_remove, put_sorted, remove_sorted, remove_takes, set_puts, stood_there, there_found}
use Rattle.node_tables.proofs.Placed.{there_trunk}
use Rattle.node_tables.proofs.RoutesKept.{gone_routed, stood_routed}
use Rattle.node_tables.proofs.Whole.{get_held, move_apart, move_sides, put_apart, put_sides}
use Rattle.node_tables.specs.Apart.{AreApart}
use Rattle.node_tables.specs.Changes.{stood}
use Rattle.node_tables.specs.Runs.{IsBuried, gone_at}
use Rattle.node_tables.specs.Sides.{sides_in}
use Rattle.node_tables.specs.Standings.{AreRouted, all_open, entries_of, side_of, state_of}
use Rattle.node_tables.specs.declared.run.Run.{Run}

module _ (held seen : List Side) (gone : List Run) (q : TrunkId) (at : ℕ) (x : Side) (standing : Standing)
    (same : seen ≡ held) (found : IsFoundAt trunk_cmp (entries_of seen) q at) (is : x ≡ get_or held at x) where
  abbrev pub now : Side
  now = record x { standing = standing }

  there : IsFoundAt trunk_cmp (entries_of held) q at
  there = subst (λ (l : List Side). IsFoundAt trunk_cmp (entries_of l) q at) same found

  was : find trunk_cmp q (entries_of held) ≡ Some (side_of x)
  was = there_found held q at x is there

  puts : entries_of (set held at now) ≡ put trunk_cmp q (side_of now) (entries_of held)
  puts = set_puts held q at x is there now refl

  own : x.trunk ≡ q
  own = there_trunk held q at x is there

  pub none_yet : AreApart held gone → gone_at gone x.trunk ≡ None
  none_yet a = ap (gone_at gone) own ∙ a q (ap is_some was)

  -- ---- in its place

  pub stood_sorted : IsSorted held → IsSorted (set held at now)
  stood_sorted s = put_sorted held (set held at now) q (side_of now) s puts

  pub stood_apart : AreApart held gone → AreApart (set held at now) gone
  stood_apart a = put_apart held (set held at now) gone q (side_of now) puts a (a q (ap is_some was))

  stands : stood (sides_in held gone) q standing ≡ fm.insert (sides_in held gone) q (side_of now)
  stands = stood_there (sides_in held gone) q standing (side_of x) (get_held held gone q (side_of x) was)

  pub stood_sides : sides_in (set held at now) gone ≡ stood (sides_in held gone) q standing
  stood_sides = put_sides held (set held at now) gone q (side_of now) puts ∙ sym stands

  module _ (y : Side) (read : y ≡ get_or held at y) (routes new : List (Name × TrunkId)) (r : AreRouted routes held)
      (d : is_up (state_of standing) ≡ false) (up : is_up (state_of y.standing) ≡ true → new ≡ without name_cmp y.peer routes)
      (down : is_up (state_of y.standing) ≡ false → new ≡ routes) where
    pub still_routed : AreRouted new (set held at now)
    still_routed =
        stood_routed routes new held (set held at now) q (side_of y) (side_of now) r (there_found held q at y read there) puts d up down

    pub moved_routed : (fs : List Side) → fs ≡ remove held at → IsSorted held → AreRouted new fs
    moved_routed fs e s =
        gone_routed new held (set held at now) fs q (side_of now) puts d (ap entries_of e ∙ remove_takes held q at s there) still_routed

  -- ---- with those that are gone

  module _ (s : IsSorted held) (fs : List Side) (e : fs ≡ remove held at) where
    takes : entries_of fs ≡ without trunk_cmp x.trunk (entries_of held)
    takes = ap entries_of e ∙ remove_takes held q at s there ∙ ap (λ t. without trunk_cmp t (entries_of held)) (sym own)

    pub moved_sorted : IsSorted fs
    moved_sorted = subst IsSorted (sym e) (remove_sorted held q at s there)

    pub moved_open : all_open held ≡ true → all_open fs ≡ true
    moved_open o = ap all_open e ∙ open_remove held at o

    module _ (more : List Run) (b : IsBuried now gone more) where
      pub moved_apart : AreApart held gone → AreApart fs more
      moved_apart = move_apart held fs gone more now b takes

      pub moved_sides : sides_in fs more ≡ stood (sides_in held gone) q standing
      moved_sides =
          move_sides held fs gone more now b takes ∙ ap (λ t. fm.insert (sides_in held gone) t (side_of now)) own ∙ sym stands
