-- The least connection on which something comes to a node, in code and in the model.
use Rattle.std.proofs.Common.{◌≡◌, ◌&&◌, Bool, true, false, cond, not, List, [], ◌∷◌, map, T}
use Rattle.std.proofs.Common.{Option, None, Some, is_some, unwrap_or, refl, sym, ap, ◌∙◌, arith, length}
use Rattle.std.specs.declared.cmp.Ordering.{Ordering}
use Rattle.std.specs.declared.cmp.Ordering.TheVariants.{Less, Equal, Greater}
use Rattle.std.proofs.lemmas.Cmp.{tied_itself}
use Rattle.std.proofs.lemmas.Bool.{and_parts, both_ways}
use Rattle.std.specs.FinMap as fm
use Rattle.std.specs.FinMap.{FinMap, find, is_sorted}
use Rattle.std.specs.List as list
use Rattle.std.specs.Option.{option_map}
use Rattle.std.specs.Ordering.{is_lt, ordering_then}
use Rattle.dist_model.proofs.Keys.{name_total, place_total, name_exact, same_name_true}
use Rattle.dist_model.proofs.Keys.{same_name_refl, trunk_exact, trunk_total}
use Rattle.sorted_map.proofs.Orderings.{then_equal}
use Rattle.dist_model.specs.Items.{Item}
use Rattle.dist_model.specs.Names.{Name, place_cmp, same_name}
use Rattle.dist_model.specs.Node.{Node}
use Rattle.dist_model.specs.Sides.{State, is_gone, is_losing, is_over}
use Rattle.dist_model.specs.Sides as state
use Rattle.dist_model.specs.World.{first_of, list_to, node_of, World as TheWorld}
use Rattle.erl_names.specs.Order.{name_cmp, trunk_cmp}
use Rattle.erl_names.specs.declared.trunk.TrunkId.{TrunkId}
use Rattle.node_frames.specs.Frames.{Framed, framed}
use Rattle.node_connections.proofs.Firsts.{first_is, found as found_in}
use Rattle.sorted_map.specs.Entries.{first_where}
use Rattle.sorted_map.specs.First.{first_held, first_least, first_none, first_passes}
use Rattle.world_core.proofs.Carried.{all_frames}
use Rattle.world_core.specs.Coming.{is_from, is_taken, least_to, next_arrival, peer_on, side_in, takes, takes_from}
use Rattle.world_core.specs.Stands.{StandsFor}
use Rattle.world_core.specs.declared.world.World.{World}
use Rattle.world_core.specs.Lists as lists

-- a side that is open and isn't lost isn't over
pub not_over : (s : State) → (not (is_gone s) && not (is_losing s)) ≡ not (is_over s)
not_over (state.AwaitsStatus w) = refl
not_over s = refl

place_exact : (a b : TrunkId × Name) → place_cmp a b ≡ Equal → a ≡ b
place_exact a b h =
    let parts = then_equal (trunk_cmp a.0 b.0) (name_cmp a.1 b.1) h in
    λ i. (trunk_exact a.0 b.0 parts.0 i, name_exact a.1 b.1 parts.1 i)

abbrev pub Entry : Type 0
Entry = TrunkId × List Framed

-- to find is to find the first
find_first : (passes : TrunkId → List Framed → Bool) (line : List Entry) → list.find (λ e. passes e.0 e.1) line ≡ first_where passes line
find_first passes [] = refl
find_first passes (e ∷ rest) = ap (λ o. cond (passes e.0 e.1) (Some e) o) (find_first passes rest)

some_in : (items : List Item) → is_some (lists.first_of (map framed items)) ≡ is_some (first_of items)
some_in [] = refl
some_in (item ∷ rest) = refl

turned_less : (a b : Ordering) → (a ≡ Less → ⊥) → b ≡ Equal → is_lt (ordering_then a b) ≡ false
turned_less Less b h e = absurd (h refl)
turned_less Equal b h e = ap is_lt e
turned_less Greater b h e = refl

-- the frames of a line to a node are those of what travels to it
pub line_is : (name : Name) (line : List Entry) (sent : lists.Lines) (carried : FinMap place_cmp (List Item))
    → line ≡ lists.line_to sent name → (t : TrunkId) → lists.at sent t name ≡ map framed (list_to carried t name)
    → unwrap_or (find trunk_cmp t line) [] ≡ map framed (unwrap_or (fm.get carried (t, name)) [])
line_is name line sent carried is t same = ap (λ l. unwrap_or (find trunk_cmp t l) []) is ∙ same

something_first : (frames : List Framed) → (frames ≡ [] → ⊥) → is_some (lists.first_of frames) ≡ true
something_first [] h = absurd (h refl)
something_first (frame ∷ rest) h = refl

-- the line to a node of that name, and whether the node takes what comes on a connection
module _ (name : Name) (line : List Entry) (carried : FinMap place_cmp (List Item)) (takes : TrunkId → Bool)
    (sorted : T (is_sorted trunk_cmp line)) (full : lists.HoldsAll line)
    (same : (t : TrunkId) → takes t ≡ true
    → unwrap_or (find trunk_cmp t line) [] ≡ map framed (unwrap_or (fm.get carried (t, name)) [])) where
  abbrev pub here : TrunkId → List Framed → Bool
  here t frames = takes t

  abbrev pub there : TrunkId × Name → List Item → Bool
  there place items = same_name place.1 name && (is_some (first_of items) && takes place.0)

  record Carried (t : TrunkId) : Type 0 where
    items : List Item
    held : fm.get carried (t, name) ≡ Some items
    passing : there (t, name) items ≡ true

  is_carried : (t : TrunkId) (frames : List Framed) → find trunk_cmp t line ≡ Some frames → here t frames ≡ true → Carried t
  is_carried t frames f p = go (fm.get carried (t, name)) refl
    where
      some_frame : frames ≡ [] → ⊥
      some_frame e = full t (f ∙ ap (λ q. Some q) e)

      go : (o : Option (List Item)) → fm.get carried (t, name) ≡ o → Carried t
      go None g = absurd (some_frame (sym (ap (λ o. unwrap_or o []) f) ∙ same t p ∙ ap (λ o. map framed (unwrap_or o [])) g))
      go (Some items) g =
          let is : frames ≡ map framed items = sym (ap (λ o. unwrap_or o []) f) ∙ same t p ∙ ap (λ o. map framed (unwrap_or o [])) g in
          let some : is_some (first_of items) ≡ true =
          sym (some_in items) ∙ ap (λ q. is_some (lists.first_of q)) (sym is) ∙ something_first frames some_frame in
          record { items = items; held = g; passing = (λ i. same_name_refl name i && (some i && p i)) }

  record Held (t : TrunkId) : Type 0 where
    frames : List Framed
    found : find trunk_cmp t line ≡ Some frames
    passing : here t frames ≡ true

  is_held : (t : TrunkId) (items : List Item) → fm.get carried (t, name) ≡ Some items
      → (is_some (first_of items) && takes t) ≡ true → Held t
  is_held t items g p = go (find trunk_cmp t line) refl
    where
      both : (is_some (first_of items) ≡ true) × (takes t ≡ true)
      both = and_parts (is_some (first_of items)) (takes t) p

      is : (o : Option (List Framed)) → find trunk_cmp t line ≡ o → unwrap_or o [] ≡ map framed items
      is o f = sym (ap (λ o. unwrap_or o []) f) ∙ same t both.1 ∙ ap (λ o. map framed (unwrap_or o [])) g

      go : (o : Option (List Framed)) → find trunk_cmp t line ≡ o → Held t
      go None f =
          absurd (both_ways (is_some (first_of items)) (sym (some_in items) ∙ ap (λ q. is_some (lists.first_of q)) (sym (is None f))) both.0)
      go (Some frames) f = record { frames = frames; found = f; passing = both.1 }

  pub arrivals_same : (o : Option Entry) → list.find (λ e. here e.0 e.1) line ≡ o
      → option_map (λ e. e.0) o ≡ option_map (λ e. e.0.0) (first_where there (fm.entries carried))
  arrivals_same None h = go (first_where there (fm.entries carried)) refl
    where
      go : (o : Option ((TrunkId × Name) × List Item)) → first_where there (fm.entries carried) ≡ o → None ≡ option_map (λ e. e.0.0) o
      go None k = refl
      go (Some ((t, x), items)) k =
          let f = found_in place_total place_exact there carried ((t, x), items) k in
          let both = and_parts (same_name x name) (is_some (first_of items) && takes t) f.passing in
          let is : x ≡ name = same_name_true x name both.0 in
          let held = is_held t items (ap (λ y. fm.get carried (t, y)) (sym is) ∙ f.held) both.1 in
          absurd (both_ways (here t held.frames)
          (first_none trunk_total trunk_exact here line t held.frames (sym (find_first here line) ∙ h) held.found) held.passing)
  arrivals_same (Some (t, frames)) h =
      let first : first_where here line ≡ Some (t, frames) = sym (find_first here line) ∙ h in
      let c =
      is_carried t frames (first_held trunk_total trunk_exact here line (t, frames) sorted first)
      (first_passes trunk_total trunk_exact here line (t, frames) first) in
      sym (ap (option_map (λ e. e.0.0)) (first_is place_total place_exact there carried (t, name) c.items (record {
        held = c.held;
        passing = c.passing;
        least = λ key items g p.
            let both = and_parts (same_name key.1 name) (is_some (first_of items) && takes key.0) p in
            let is : key.1 ≡ name = same_name_true key.1 name both.0 in
            let held = is_held key.0 items (ap (λ y. fm.get carried (key.0, y)) (sym is) ∙ g) both.1 in
            turned_less (trunk_cmp key.0 t) (name_cmp key.1 name)
            (first_least trunk_total trunk_exact here line (t, frames) key.0 held.frames sorted first held.found held.passing)
            (ap (λ y. name_cmp y name) is ∙ tied_itself name_total name);
      })))

-- ---- the next arrival in a world of code

no_entry : (line : List Entry) → length line ≡ 0 → line ≡ []
no_entry [] h = refl
no_entry (entry ∷ rest) h = absurd (omega (arith, h))

module _ (w : World) (m : TheWorld) (h : StandsFor w m) (node : Node) (from : Option Name) (line : List Entry)
    (is : line ≡ lists.line_to w.lists node.mint.name) (sorted : T (is_sorted trunk_cmp line)) (full : lists.HoldsAll line) where
  abbrev name : Name
  name = node.mint.name

  -- by the world's own node of that name
  abbrev taken_by : Option Node → TrunkId → Bool
  taken_by own t = takes (side_in own t) && takes_from from t (fm.get node.sides t)

  same_frames : (t : TrunkId) → is_taken m t name ≡ true
      → unwrap_or (find trunk_cmp t line) [] ≡ map framed (unwrap_or (fm.get m.lists (t, name)) [])
  same_frames t k =
      line_is name line w.lists m.lists is t
      (all_frames (is_taken m t name) (lists.at w.lists t name) (list_to m.lists t name) (h.lists t name) k)

  pub next_is : (own : Option Node) → own ≡ node_of m.nodes name → (o : Option Entry) → list.find (λ e. taken_by own e.0) line ≡ o
      → option_map (λ e. e.0) o ≡ next_arrival m node from
  next_is own e o f =
      arrivals_same name line m.lists (taken_by own) sorted full (λ t k.
      same_frames t (ap (λ v. takes (side_in v t)) (sym e) ∙ (and_parts (takes (side_in own t)) (takes_from from t (fm.get node.sides t)) k).0)) o f
      ∙ ap (λ v. least_to m name (taken_by v)) e

  pub none_is : length line ≡ 0 → None ≡ next_arrival m node from
  none_is l = let e = no_entry line l in next_is (node_of m.nodes name) refl None (ap (list.find (λ (e : Entry). taken_by (node_of m.nodes name) e.0)) e)

-- ---- a node of the world

twice : (a b : Bool) → (a && (a && b)) ≡ (a && b)
twice true b = refl
twice false b = refl

pub own_sides : (m : TheWorld) (node : Node) (from : Option Name) → node_of m.nodes node.mint.name ≡ Some node
    → next_arrival m node from ≡ least_to m node.mint.name (λ t. takes_from from t (fm.get node.sides t))
own_sides m node from h = λ i. least_to m node.mint.name (λ t. same t i)
  where
    same : (t : TrunkId)
        → (is_taken m t node.mint.name && takes_from from t (fm.get node.sides t)) ≡ takes_from from t (fm.get node.sides t)
    same t =
        ap (λ o. takes (side_in o t) && takes_from from t (fm.get node.sides t)) h
        ∙ twice (takes (fm.get node.sides t)) (is_from from (peer_on t (fm.get node.sides t)))
