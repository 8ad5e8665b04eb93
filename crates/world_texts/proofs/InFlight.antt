-- The items in flight to a node, and their frames in code.
use Rattle.std.proofs.Common.{◌≡◌, ◌&&◌, Bool, true, false, cond, T, List, [], ◌∷◌, map, Some, unwrap_or, ap, subst, ◌∙◌}
use Rattle.std.proofs.lemmas.Bool.{and_parts}
use Rattle.std.proofs.lemmas.Cmp.{tied_itself}
use Rattle.std.specs.FinMap as fm
use Rattle.std.specs.FinMap.{find, is_sorted}
use Rattle.std.specs.List.{flat_map}
use Rattle.std.specs.Ordering.{is_eq}
use Rattle.std.specs.declared.cmp.Ordering.TheVariants.{Equal}
use Rattle.dist_model.proofs.Keys.{below_key, name_exact, name_total, place_total, trunk_exact, trunk_total}
use Rattle.dist_model.specs.Items.{Item}
use Rattle.dist_model.specs.Names.{Name, place_cmp, same_name}
use Rattle.dist_model.specs.Node.{Node}
use Rattle.dist_model.specs.World.{World as TheWorld, list_to}
use Rattle.erl_names.specs.Order.{name_cmp, trunk_cmp}
use Rattle.erl_names.specs.declared.trunk.TrunkId.{TrunkId}
use Rattle.node_frames.specs.Frames.{Framed, framed}
use Rattle.sorted_map.proofs.Orderings.{then_equal}
use Rattle.sorted_map.specs.Facts.{both_pass}
use Rattle.world_core.proofs.Carried.{all_frames}
use Rattle.world_core.proofs.LeastArrival.{line_is}
use Rattle.world_core.specs.Coming.{is_taken, takes_from}
use Rattle.world_core.specs.Lists.{HoldsAll, Line, at, line_to}
use Rattle.world_core.specs.Stands.{AreSpelled, StandsFor}
use Rattle.world_core.specs.declared.world.World.{World}
use Rattle.world_texts.specs.Travelling.{coming_on, takes_on, travelling}
use Rattle.world_texts.proofs.Frames.{spelled_both}
use Rattle.world_texts.proofs.OneLine.{same_values}

place_exact : (a b : TrunkId × Name) → place_cmp a b ≡ Equal → a ≡ b
place_exact a b h =
    let parts = then_equal (trunk_cmp a.0 b.0) (name_cmp a.1 b.1) h in
    λ i. (trunk_exact a.0 b.0 parts.0 i, name_exact a.1 b.1 parts.1 i)

-- the frames of an entry, if the node takes them
abbrev pub frames_on : TheWorld → Node → (peer : Name) → TrunkId × List Framed → List Framed
frames_on m node peer entry = cond (takes_on m node peer entry.0) entry.1 []

abbrev Sent : Type 0
Sent = (TrunkId × Name) × List Item

spelled_entries : (name : Name) (passes : TrunkId → Bool) (entries : List Sent) → T (is_sorted place_cmp entries)
    → ((place : TrunkId × Name) (items : List Item) → find place_cmp place entries ≡ Some items → AreSpelled items)
    → AreSpelled (flat_map (coming_on name passes) entries)
spelled_entries name passes [] s h = tt
spelled_entries name passes (entry ∷ rest) s h =
    spelled_both (coming_on name passes entry) (flat_map (coming_on name passes) rest)
    (go (same_name entry.0.1 name && passes entry.0.0))
    (spelled_entries name passes rest (both_pass _ _ s).1 (λ place items f. h place items (later place items f)))
  where
    first : AreSpelled entry.1
    first = h entry.0 entry.1 (ap (λ o. cond (is_eq o) (Some entry.1) (find place_cmp entry.0 rest)) (tied_itself place_total entry.0))

    go : (b : Bool) → AreSpelled (cond b entry.1 [])
    go true = first
    go false = tt

    later : (place : TrunkId × Name) (items : List Item) → find place_cmp place rest ≡ Some items
        → find place_cmp place (entry ∷ rest) ≡ Some items
    later place items f =
        ap (λ b. cond b (Some entry.1) (find place_cmp place rest))
        (below_key place_cmp place_exact place entry.0 items rest (both_pass _ _ s).0 f)
        ∙ f

module _ (w : World) (m : TheWorld) (h : StandsFor w m) (node : Node) (peer : Name) where
  pub travelling_spelled : AreSpelled (travelling m node peer)
  travelling_spelled =
      spelled_entries node.mint.name (takes_on m node peer) (fm.entries m.lists) (fm.entries_sorted m.lists)
      (λ place items f.
      subst AreSpelled (ap (λ o. unwrap_or o []) (fm.get-entries m.lists place ∙ f)) (h.spelled place.0 place.1))

  pub frames_travelling : (line : Line) → line ≡ line_to w.lists node.mint.name → T (is_sorted trunk_cmp line) → HoldsAll line
      → flat_map (frames_on m node peer) line ≡ map framed (travelling m node peer)
  frames_travelling line is sorted full =
      same_values trunk_total trunk_exact name_total name_exact framed node.mint.name (takes_on m node peer) (fm.entries m.lists) line
      (fm.entries_sorted m.lists) sorted full
      (λ t p.
      line_is node.mint.name line w.lists m.lists is t
      (all_frames (is_taken m t node.mint.name) (at w.lists t node.mint.name) (list_to m.lists t node.mint.name) (h.lists t node.mint.name)
      (and_parts (is_taken m t node.mint.name) (takes_from (Some peer) t (fm.get node.sides t)) p).0)
      ∙ ap (λ o. map framed (unwrap_or o [])) (fm.get-entries m.lists (t, node.mint.name)))
