-- Where nothing may happen at a node, nothing may after an event that doesn't touch it.
use Rattle.std.proofs.Common.{◌≡◌, ◌&&◌, ◌+◌, ℕ, zero, suc, Bool, true, false, cond, not, List, [], ◌∷◌, ◌++◌}
use Rattle.std.proofs.Common.{map, take, drop, Option, None, Some, is_some, refl, sym, ap, ◌∙◌, arith}
use Rattle.std.proofs.lemmas.Bool.{both_ways, or_parts}
use Rattle.std.proofs.lemmas.Option.{same_Some}
use Rattle.std.specs.FinMap as fm
use Rattle.std.specs.FinMap.{FinMap}
use Rattle.std.specs.List.{list_any, position_or_len}
use Rattle.std.specs.Option.{option_map, option_or}
use Rattle.std.specs.declared.cmp.Ordering.{Ordering}
use Rattle.std.specs.declared.cmp.Ordering.TheVariants.{Equal}
use Rattle.std.specs.Ordering.{eq_by_cmp, is_eq, ordering_then}
use Rattle.dist_model.proofs.KeepBearings.{bearings_kept, if_accepted}
use Rattle.dist_model.proofs.Keys.{name_exact, name_turned, place_total, same_name_is, trunk_exact}
use Rattle.dist_model.proofs.Routes.{node_of_name, node_of_set_other}
use Rattle.dist_model.specs.Commands.{Accepts, Outcome, Refuses}
use Rattle.dist_model.specs.Items.{Item}
use Rattle.dist_model.specs.Keeping.{Bearings}
use Rattle.dist_model.specs.Losses.{any_side}
use Rattle.dist_model.specs.Names.{Name, place_cmp, same_name}
use Rattle.dist_model.specs.Node.{Node, first_where}
use Rattle.dist_model.specs.NodeEvents.{at_node}
use Rattle.dist_model.specs.Seen.{side_of_trunk}
use Rattle.dist_model.specs.Sides.{TrunkSide, is_losing}
use Rattle.dist_model.specs.World.{Arrive, Event, Local, Sweep, World, came_of, carried, first_of}
use Rattle.dist_model.specs.World.{left, list_to, met, node_name, node_of, rest_of, set_node, step, step_at}
use Rattle.dist_model.specs.declared.report.Effect.{Effect}
use Rattle.erl_names.specs.Order.{name_cmp, trunk_cmp}
use Rattle.erl_names.specs.declared.trunk.TrunkId.{TrunkId}
use Rattle.node_connections.proofs.Firsts.{none_found, none_is}
use Rattle.script_session.specs.Stage.{Stage, after}
use Rattle.run_traces.specs.Traces.{effects_of}
use Rattle.script_session.specs.Touched.{AreIdle, is_sent_to, is_touched}
use Rattle.script_session.specs.Turns.{first_turn, turn, turn_at}
use Rattle.world_core.specs.Coming.{next_arrival, side_in, takes, takes_from}

equal_of : (o : Ordering) → is_eq o ≡ true → o ≡ Equal
equal_of Equal h = refl
equal_of _ h = cc

then_equal : (a b : Ordering) → ordering_then a b ≡ Equal → (a ≡ Equal) × (b ≡ Equal)
then_equal Equal b h = (refl, h)
then_equal _ b h = cc

place_exact : (a b : TrunkId × Name) → place_cmp a b ≡ Equal → a ≡ b
place_exact a b h =
    let parts = then_equal (trunk_cmp a.0 b.0) (name_cmp a.1 b.1) h in
    λ i. (trunk_exact a.0 b.0 parts.0 i, name_exact a.1 b.1 parts.1 i)

unmapped : {A B : Type 0} (f : A → B) (o : Option A) → option_map f o ≡ None → o ≡ None
unmapped f None h = refl
unmapped f (Some x) h = cc

-- ---- one node

module _ (n : Node) where
  abbrev own : Name
  own = n.mint.name

  -- by the sides that the world has at the node of that name
  abbrev Sides : Type 0
  Sides = TrunkId → Option TrunkSide

  abbrev sides_in : World → Sides
  sides_in w t = side_of_trunk w own t

  abbrev comes : Sides → TrunkId × Name → List Item → Bool
  comes sides place items =
      same_name place.1 own && (is_some (first_of items) && (takes (sides place.0) && takes_from None place.0 (fm.get n.sides place.0)))

  abbrev NoneComes : Sides → FinMap place_cmp (List Item) → Type 0
  NoneComes sides lists = first_where (comes sides) (fm.entries lists) ≡ None

  module _ (sides : Sides) where
    -- at the place of another node something may be put
    put_elsewhere : (lists : FinMap place_cmp (List Item)) (k : TrunkId × Name) (items : List Item) → same_name k.1 own ≡ false
        → NoneComes sides lists → NoneComes sides (fm.insert lists k items)
    put_elsewhere lists k items d h =
        none_is place_total place_exact (comes sides) (fm.insert lists k items)
        (λ key value g. go key value (eq_by_cmp place_cmp key k) refl (sym (fm.get-insert place_total lists k items key) ∙ g))
      where
        go : (key : TrunkId × Name) (value : List Item) (b : Bool) → eq_by_cmp place_cmp key k ≡ b
            → cond b (Some items) (fm.get lists key) ≡ Some value → comes sides key value ≡ false
        go key value true t g =
            ap (λ (at : TrunkId × Name). comes sides at value) (place_exact key k (equal_of _ t))
            ∙ ap (λ (b : Bool). b && (is_some (first_of value) && (takes (sides k.0) && takes_from None k.0 (fm.get n.sides k.0)))) d
        go key value false t g = none_found place_total place_exact (comes sides) lists h key value g

    sent_elsewhere : (lists : FinMap place_cmp (List Item)) (effects : List (Effect Item)) → list_any (is_sent_to own) effects ≡ false
        → NoneComes sides lists → NoneComes sides (carried lists effects)
    sent_elsewhere lists [] s h = h
    sent_elsewhere lists (Effect.Sent (Some trunk) peer item ∷ rest) s h =
        let t = or_parts (same_name peer own) (list_any (is_sent_to own) rest) s in
        let items : List Item = list_to lists trunk peer ++ item ∷ [] in
        sent_elsewhere (fm.insert lists (trunk, peer) items) rest t.1 (put_elsewhere lists (trunk, peer) items t.0 h)
    sent_elsewhere lists (_ ∷ rest) s h = sent_elsewhere lists rest s h

    taken_elsewhere : (w : World) (e : Event) → same_name (node_name e) own ≡ false → NoneComes sides w.lists
        → NoneComes sides (left w e)
    taken_elsewhere w (Arrive trunk name word) d h = put_elsewhere w.lists (trunk, name) (rest_of (list_to w.lists trunk name)) d h
    taken_elsewhere w _ d h = h

    none_put : (w : World) (e : Event) → same_name (node_name e) own ≡ false
        → list_any (is_sent_to own) (effects_of (step w e).report) ≡ false
        → NoneComes sides w.lists → NoneComes sides (step w e).world.lists
    none_put w e d s h = at (node_of w.nodes (node_name e)) s
      where
        came : (o : Outcome) → list_any (is_sent_to own) (effects_of (came_of w (node_name e) (left w e) o).report) ≡ false
            → NoneComes sides (came_of w (node_name e) (left w e) o).world.lists
        came (Refuses why) s = h
        came (Accepts answer work) s = sent_elsewhere (left w e) work.effects s (taken_elsewhere w e d h)

        at : (found : Option Node) → list_any (is_sent_to own) (effects_of (step_at w found e).report) ≡ false
            → NoneComes sides (step_at w found e).world.lists
        at None s = h
        at (Some m) s = came (at_node w.names m (met w e)) s

  -- the node of that name stays as it is
  node_stays : (w : World) (e : Event) → same_name (node_name e) own ≡ false → node_of (step w e).world.nodes own ≡ node_of w.nodes own
  node_stays w e d = at (node_of w.nodes (node_name e)) refl
    where
      other : node_name e ≡ own → ⊥
      other i = both_ways (same_name (node_name e) own) d (same_name_is (node_name e) own i)

      came : (m : Node) → m.mint.name ≡ node_name e → (o : Outcome) → at_node w.names m (met w e) ≡ o
          → node_of (came_of w (node_name e) (left w e) o).world.nodes own ≡ node_of w.nodes own
      came m i (Refuses why) h = refl
      came m i (Accepts answer work) h =
          let bears = if_accepted (Bearings m (met w e)) (at_node w.names m (met w e)) answer work h (bearings_kept w.names m (met w e)) in
          node_of_set_other w.nodes (node_name e) own work.node (bears.name ∙ i) other

      at : (found : Option Node) → node_of w.nodes (node_name e) ≡ found
          → node_of (step_at w found e).world.nodes own ≡ node_of w.nodes own
      at None h = refl
      at (Some m) h = came m (node_of_name w.nodes (node_name e) m h) (at_node w.names m (met w e)) refl

  none_comes : (w : World) (e : Event) → same_name (node_name e) own ≡ false
      → list_any (is_sent_to own) (effects_of (step w e).report) ≡ false
      → NoneComes (sides_in w) w.lists → NoneComes (sides_in (step w e).world) (step w e).world.lists
  none_comes w e d s h =
      ap (λ (found : Option Node). first_where (comes (λ t. side_in found t)) (fm.entries (step w e).world.lists)) (node_stays w e d)
      ∙ none_put (sides_in w) w e d s h

  -- the event that may happen there, by the state of the node and the connection that something comes on
  abbrev turn_by : (up local losing : Bool) → (word : ℕ) → Option TrunkId → Option Event
  turn_by up local losing word next =
      cond (not up) None
      (cond local (Some (Local own)) (cond losing (Some (Sweep own)) (option_map (λ trunk. Arrive trunk own word) next)))

  pub still_idle : (w : World) (e : Event) (a b : ℕ) → is_touched (node_name e) (effects_of (step w e).report) own ≡ false
      → turn_at w a n ≡ None → turn_at (step w e).world b n ≡ None
  still_idle w e a b t h = go n.up (is_some (first_of n.local)) (is_some (any_side is_losing (fm.entries n.sides))) h
    where
      next_none : next_arrival w n None ≡ None → next_arrival (step w e).world n None ≡ None
      next_none k =
          let parts = or_parts (same_name own (node_name e)) (list_any (is_sent_to own) (effects_of (step w e).report)) t in
          ap (option_map (λ (entry : (TrunkId × Name) × List Item). entry.0.0))
          (none_comes w e (name_turned own (node_name e) parts.0) parts.1 (unmapped (λ (entry : (TrunkId × Name) × List Item). entry.0.0) _ k))

      go : (up local losing : Bool) → turn_by up local losing a (next_arrival w n None) ≡ None
          → turn_by up local losing b (next_arrival (step w e).world n None) ≡ None
      go false local losing k = refl
      go true true losing k = cc
      go true false true k = cc
      go true false false k =
          ap (option_map (λ trunk. Arrive trunk own b)) (next_none (unmapped (λ trunk. Arrive trunk own a) (next_arrival w n None) k))

  -- an event that may happen there is one of this node
  turn_is_own : (w : World) (a : ℕ) (e : Event) → turn_at w a n ≡ Some e → own ≡ node_name e
  turn_is_own w a e h =
      go n.up (is_some (first_of n.local)) (is_some (any_side is_losing (fm.entries n.sides))) (next_arrival w n None) h
    where
      go : (up local losing : Bool) (next : Option TrunkId) → turn_by up local losing a next ≡ Some e → own ≡ node_name e
      go false local losing next k = cc
      go true true losing next k = ap node_name (same_Some (Local own) e k)
      go true false true next k = ap node_name (same_Some (Sweep own) e k)
      go true false false None k = cc
      go true false false (Some trunk) k = ap node_name (same_Some (Arrive trunk own a) e k)

-- ---- the first nodes

abbrev pub names_in : List Node → List Name
names_in = map (λ node. node.mint.name)

none_both : (a b : Option Event) → option_or a b ≡ None → (a ≡ None) × (b ≡ None)
none_both None b h = (refl, h)
none_both (Some x) b h = cc

-- where the first nodes are idle, the next turn is one of the others
pub behind_idle : (w : World) (word count : ℕ) (nodes : List Node) → first_turn w word (take count nodes) ≡ None
    → first_turn w word nodes ≡ first_turn w word (drop count nodes)
behind_idle w word zero nodes h = refl
behind_idle w word (suc count) [] h = refl
behind_idle w word (suc count) (n ∷ rest) h =
    let t = none_both (turn_at w word n) (first_turn w word (take count rest)) h in
    ap (λ (o : Option Event). option_or o (first_turn w word rest)) t.0 ∙ behind_idle w word count rest t.1

one_plus : (n : ℕ) → 1 + n ≡ suc n
one_plus n = omega arith

module _ (w : World) (e : Event) where
  abbrev touched : Name → Bool
  touched = is_touched (node_name e) (effects_of (step w e).report)

  -- so many nodes stand before the first that it touches
  abbrev pub before : List Node → ℕ
  before nodes = position_or_len touched (names_in nodes)

  pub idle_before : (a b : ℕ) (nodes : List Node) → first_turn w a nodes ≡ Some e
      → first_turn (step w e).world b (take (before nodes) nodes) ≡ None
  idle_before a b [] h = refl
  idle_before a b (n ∷ rest) h = go (touched n.mint.name) refl (idle_before a b rest)
    where
      none : touched n.mint.name ≡ false → (o : Option Event) → turn_at w a n ≡ o → option_or o (first_turn w a rest) ≡ Some e
          → (turn_at w a n ≡ None) × (first_turn w a rest ≡ Some e)
      none k None t h = (t, h)
      none k (Some x) t h =
          absurd (both_ways (same_name n.mint.name (node_name e))
          (or_parts (same_name n.mint.name (node_name e)) (list_any (is_sent_to n.mint.name) (effects_of (step w e).report)) k).0
          (same_name_is n.mint.name (node_name e) (turn_is_own n w a e (t ∙ h))))

      go : (t : Bool) → touched n.mint.name ≡ t
          → (first_turn w a rest ≡ Some e → first_turn (step w e).world b (take (before rest) rest) ≡ None)
          → first_turn (step w e).world b (take (cond (not t) (1 + before rest) 0) (n ∷ rest)) ≡ None
      go true k later = refl
      go false k later =
          let parts = none k (turn_at w a n) refl h in
          ap (λ (count : ℕ). first_turn (step w e).world b (take count (n ∷ rest))) (one_plus (before rest))
          ∙ ap (λ (o : Option Event). option_or o (first_turn (step w e).world b (take (before rest) rest)))
          (still_idle n w e a b k parts.0)
          ∙ later parts.1

  kept_before : (new : Node) (nodes : List Node)
      → take (before nodes) (set_node nodes (node_name e) new) ≡ take (before nodes) nodes
  kept_before new [] = refl
  kept_before new (n ∷ rest) = go (touched n.mint.name) refl (kept_before new rest)
    where
      go : (t : Bool) → touched n.mint.name ≡ t
          → take (before rest) (set_node rest (node_name e) new) ≡ take (before rest) rest
          → take (cond (not t) (1 + before rest) 0)
          (cond (same_name n.mint.name (node_name e)) (new ∷ rest) (n ∷ set_node rest (node_name e) new))
          ≡ take (cond (not t) (1 + before rest) 0) (n ∷ rest)
      go true k later = refl
      go false k later =
          let other =
          (or_parts (same_name n.mint.name (node_name e)) (list_any (is_sent_to n.mint.name) (effects_of (step w e).report)) k).0 in
          ap (λ (b : Bool). take (1 + before rest) (cond b (new ∷ rest) (n ∷ set_node rest (node_name e) new))) other
          ∙ ap (λ (count : ℕ). take count (n ∷ set_node rest (node_name e) new)) (one_plus (before rest))
          ∙ ap (λ (ns : List Node). n ∷ ns) later
          ∙ ap (λ (count : ℕ). take count (n ∷ rest)) (sym (one_plus (before rest)))

  nodes_kept : take (before w.nodes) (step w e).world.nodes ≡ take (before w.nodes) w.nodes
  nodes_kept = at (node_of w.nodes (node_name e))
    where
      came : (o : Outcome) → take (before w.nodes) (came_of w (node_name e) (left w e) o).world.nodes ≡ take (before w.nodes) w.nodes
      came (Refuses why) = refl
      came (Accepts answer work) = kept_before work.node w.nodes

      at : (found : Option Node) → take (before w.nodes) (step_at w found e).world.nodes ≡ take (before w.nodes) w.nodes
      at None = refl
      at (Some m) = came (at_node w.names m (met w e))

  pub names_kept : (step w e).world.names ≡ w.names
  names_kept = at (node_of w.nodes (node_name e))
    where
      came : (o : Outcome) → (came_of w (node_name e) (left w e) o).world.names ≡ w.names
      came (Refuses why) = refl
      came (Accepts answer work) = refl

      at : (found : Option Node) → (step_at w found e).world.names ≡ w.names
      at None = refl
      at (Some m) = came (at_node w.names m (met w e))

-- at the nodes before the first that a turn touches nothing may happen afterwards
pub idle_after : (it : Stage) (e : Event) → turn it ≡ Some e → AreIdle (after it e) (before it.world e it.world.nodes)
idle_after it e h =
    ap (first_turn (step it.world e).world (after it e).word) (nodes_kept it.world e)
    ∙ idle_before it.world e it.word (after it e).word it.world.nodes h
