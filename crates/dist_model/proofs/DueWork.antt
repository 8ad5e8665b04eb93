-- What stands first in a list is due: a node in the midst of an event.
use Rattle.std.proofs.Common.{◌≡◌, Bool, true, false, cond, List, [], ◌∷◌, ◌++◌, refl}
use Rattle.std.proofs.Common.{sym, ap, ◌∙◌, subst, Option, Some, ◌⊎◌, inl, inr, ◌&&◌}
use Rattle.std.proofs.lemmas.Bool.{and_parts}
use Rattle.std.proofs.lemmas.Option.{same_Some}
use Rattle.std.specs.FinMap as fm
use Rattle.std.specs.FinMap.{FinMap}
use Rattle.dist_model.proofs.Calls.{by_test, by_trunk}
use Rattle.dist_model.proofs.Due.{acceptor_ends, acceptor_goes, dialer_ends, DueRow, of_far, row_with, says_to_dialer, state_in}
use Rattle.dist_model.proofs.DueWorld.{Due, due_acceptor, due_dialer, Whose}
use Rattle.dist_model.proofs.Keys.{same_name_true, same_trunk, same_trunk_refl, same_trunk_true, same_name_refl}
use Rattle.dist_model.proofs.NewSides.{set_twice}
use Rattle.dist_model.proofs.Pairs.{Met}
use Rattle.dist_model.proofs.SideChanges.{side_after_other, side_after_same, with_side_at}
use Rattle.dist_model.proofs.Routes.{list_to_insert, node_of_set_other, node_of_set_same}
use Rattle.dist_model.proofs.Sides.{holds, side_at}
use Rattle.dist_model.proofs.Trunks.{is_accept, role_state, up_once}
use Rattle.dist_model.specs.Handshake.{set_state, write}
use Rattle.dist_model.specs.Items.{Handshake, Item}
use Rattle.dist_model.specs.Names.{Name, place_cmp, same_name}
use Rattle.dist_model.specs.Node.{Node}
use Rattle.dist_model.specs.Sides.{State, TrunkSide, is_over}
use Rattle.dist_model.specs.Work.{Work}
use Rattle.dist_model.specs.World.{carried, list_to, node_of, set_node}
use Rattle.dist_model.specs.declared.report.Effect.{Effect}
use Rattle.erl_handshake.specs.declared.message.ShakeMsg.{ShakeMsg}
use Rattle.erl_names.specs.declared.trunk.TrunkId.{TrunkId}
use Rattle.dist_model.specs.Due.{of_role}
use Rattle.dist_model.proofs.ClosedSides.{carried-push}
use Rattle.dist_model.proofs.Handshake.{as_state}

-- a list is replaced
pub put_same : (m : FinMap place_cmp (List Item)) (t : TrunkId) (y : Name) (l : List Item) → list_to (fm.insert m (t, y) l) t y ≡ l
put_same m t y l = list_to_insert m t y l t y ∙ ap (λ b. cond b l (list_to m t y))
    (ap (λ b. b && same_name y y) (same_trunk_refl t) ∙ same_name_refl y)

pub put_other : (m : FinMap place_cmp (List Item)) (t : TrunkId) (y : Name) (l : List Item) (z : Name) → (z ≡ y → ⊥)
    → list_to (fm.insert m (t, y) l) t z ≡ list_to m t z
put_other m t y l z d = list_to_insert m t y l t z ∙ by_test _ (same_trunk t t && same_name z y)
    (λ h. absurd (d (same_name_true z y (and_parts (same_trunk t t) (same_name z y) h).1)))
    (λ h. ap (λ b. cond b l (list_to m t z)) h)

pub put_away : (m : FinMap place_cmp (List Item)) (t : TrunkId) (y : Name) (l : List Item) (u : TrunkId) (z : Name) → (u ≡ t → ⊥)
    → list_to (fm.insert m (t, y) l) u z ≡ list_to m u z
put_away m t y l u z d = list_to_insert m t y l u z ∙ by_test _ (same_trunk u t && same_name z y)
    (λ h. absurd (d (same_trunk_true u t (and_parts (same_trunk u t) (same_name z y) h).0)))
    (λ h. ap (λ b. cond b l (list_to m u z)) h)

module _ (ns : List Node) (m : FinMap place_cmp (List Item)) (x : Name) (n : Node) (hx : node_of ns x ≡ Some n) where
  -- what x knows of a trunk
  pub record Told (t : TrunkId) (s : TrunkSide) : Type 0 where
    pub stranger : s.peer ≡ x → ⊥
    pub whose : Whose ns x t s
    pub role : role_state (same_name t.dialer x) s.state ≡ true

  pub record Going (o : Work) : Type 0 where
    pub name : o.node.mint.name ≡ x
    pub told : (t : TrunkId) (s : TrunkSide) → side_at o.node t ≡ Some s → Told t s
    pub due : Due (set_node ns x o.node) (carried m o.effects)

  at_x : (o : Work) → Going o → node_of (set_node ns x o.node) x ≡ Some o.node
  at_x o g = node_of_set_same ns x n o.node hx g.name

  met_at : (o : Work) (t : TrunkId) → Going o → (t.dialer ≡ x → ⊥) → Met ns t x → Met (set_node ns x o.node) t x
  met_at o t g d k = record {
    dialer = k.dialer;
    at = node_of_set_other ns x t.dialer o.node g.name (λ i. d (sym i))
        ∙ k.at;
    side = k.side;
    there = k.there;
    peer = k.peer;
  }

  told_set : (o : Work) (t : TrunkId) (s : TrunkSide) → Going o → Told t s → (u : TrunkId) (v : TrunkSide)
      → side_at (with_side_at o.node t s) u ≡ Some v → Told u v
  told_set o t s g k u v h = by_trunk _ u t
      (λ e.
      let sv : s ≡ v = same_Some s v (sym (side_after_same o.node t s) ∙ ap (side_at (with_side_at o.node t s)) (sym e) ∙ h) in
      subst (λ z. Told z v) (sym e) (subst (λ z. Told t z) sv k))
      (λ d. g.told u v (sym (side_after_other o.node t s u d) ∙ h))

  -- a side that the node has is lost, closed or given up
  pub ends_side : (o : Work) (t : TrunkId) (s : TrunkSide) (u : State) → Going o → side_at o.node t ≡ Some s → is_over u ≡ true
      → (holds s.state ≡ false → holds u ≡ false) → (holds u ≡ true → holds s.state ≡ true) → role_state (same_name t.dialer x) u ≡ true
      → Going (set_state t s u o)
  ends_side o t s u g h e a b r =
      let k = g.told t s h in
      let s0 : TrunkSide = as_state s u in
      let n2 = with_side_at o.node t s0 in
      record {
        name = g.name;
        told = told_set o t s0 g (record { stranger = k.stranger; whose = k.whose; role = r });
        due = subst (λ l. Due l (carried m o.effects)) (set_twice ns x o.node n2 g.name) (pick k.whose);
      }
    where
      pick : Whose ns x t s → Due (set_node (set_node ns x o.node) x (with_side_at o.node t (as_state s u))) (carried m o.effects)
      pick (inl d) = due_dialer (set_node ns x o.node) (carried m o.effects) x o.node (with_side_at o.node t (as_state s u)) (at_x o g)
          g.name t (carried m o.effects) (λ v i. side_after_other o.node t _ v i) (λ v z i. refl)
          d s (as_state s u) h (side_after_same o.node t _) refl ((g.told t s h).stranger)
          (λ p row. dialer_ends s.state u p _ _ e a row) g.due
      pick (inr d) = due_acceptor (set_node ns x o.node) (carried m o.effects) x o.node (with_side_at o.node t (as_state s u)) (at_x o g)
          g.name t (carried m o.effects) (λ v i. side_after_other o.node t _ v i) (λ v z i. refl)
          d.0 (met_at o t g d.0 d.2)
          (λ v row. row_with v (Some u) (state_in (side_at (with_side_at o.node t (as_state s u)) t)) _ _ _ _
          (ap state_in (sym (side_after_same o.node t _))) refl refl
          (acceptor_ends v u (Some s.state) _ _ e a b (row_with v (state_in (side_at o.node t)) (Some s.state) _ _ _ _ (ap state_in h) refl
          refl row))) g.due

  -- where x is the acceptor
  module _ (t : TrunkId) (far : t.dialer ≡ x → ⊥) (k : Met ns t x) (s : TrunkSide) (ps : s.peer ≡ t.dialer) where
    told_new : (u : State) → role_state false u ≡ true → Told t (as_state s u)
    told_new u r = record {
      stranger = λ i. far (sym ps ∙ i);
      whose = inr (far, sym ps, k);
      role = ap (λ b. role_state b u)
          (apart (same_name t.dialer x) refl) ∙ r;
    }
      where
        apart : (b : Bool) → same_name t.dialer x ≡ b → same_name t.dialer x ≡ false
        apart true i = absurd (far (same_name_true t.dialer x i))
        apart false i = i

    -- a new state
    new_row : (u v : State) (o : Option State) (D A : List Item) → of_far up_once o ≡ false → of_far holds o ≡ false
        → ((is_over u ≡ true) × (holds u ≡ false)) ⊎ (up_once u ≡ false) → DueRow v o D A → DueRow v (Some u) D A
    new_row u v o D A f h (inl c) r = acceptor_ends v u o D A c.0 (λ i. c.1) (λ i. absurd (let z : true ≡ false = sym i ∙ c.1 in cc)) r
    new_row u v o D A f h (inr c) r = acceptor_goes v u o D A f c r

    -- the state, and what travels to the dialer, change in one stroke
    changes : (o : Work) (n2 : Node) (m2 : FinMap place_cmp (List Item)) (p : Option TrunkSide) (u : State) → Going o → n2.mint.name ≡ x
        → side_at o.node t ≡ p → state_in (side_at n2 t) ≡ Some u → ((v : TrunkId) → (v ≡ t → ⊥) → side_at n2 v ≡ side_at o.node v)
        → ((v : TrunkId) (z : Name) → (v ≡ t → ⊥) → list_to m2 v z ≡ list_to (carried m o.effects) v z)
        → list_to m2 t x ≡ list_to (carried m o.effects) t x
        → ((v : State) (A : List Item) → DueRow v (state_in p) (list_to (carried m o.effects) t t.dialer) A
        → DueRow v (Some u) (list_to m2 t t.dialer) A)
        → Due (set_node ns x n2) m2
    changes o n2 m2 p u g nn h hu others lists own row = subst (λ l. Due l m2) (set_twice ns x o.node n2 g.name)
        (due_acceptor (set_node ns x o.node) (carried m o.effects) x o.node n2 (at_x o g) nn t m2 others lists far (met_at o t g far k)
        (λ v r. row_with v (Some u) (state_in (side_at n2 t)) _ _ _ _ (sym hu) refl (sym own)
        (row v _ (row_with v (state_in (side_at o.node t)) (state_in p) _ _ _ _ (ap state_in h) refl refl r))) g.due)

    -- a message to the dialer is written
    abbrev told_too : Work → ShakeMsg → FinMap place_cmp (List Item)
    told_too o i = fm.insert (carried m o.effects) (t, s.peer) (list_to (carried m o.effects) t s.peer ++ Handshake i ∷ [])

    to_dialer : (o : Work) (i : ShakeMsg) → list_to (told_too o i) t t.dialer ≡ list_to (carried m o.effects) t t.dialer ++ Handshake i ∷ []
    to_dialer o i = ap (list_to (told_too o i) t) (sym ps) ∙ put_same (carried m o.effects) t s.peer _
        ∙ ap (λ y. list_to (carried m o.effects) t y ++ Handshake i ∷ []) ps

    written : (o : Work) (n2 : Node) (p : Option TrunkSide) (u : State) (i : ShakeMsg) → Going o → n2.mint.name ≡ x
        → side_at o.node t ≡ p → state_in (side_at n2 t) ≡ Some u → ((v : TrunkId) → (v ≡ t → ⊥) → side_at n2 v ≡ side_at o.node v)
        → ((v : State) (D A : List Item) → DueRow v (state_in p) D A → DueRow v (Some u) (D ++ Handshake i ∷ []) A)
        → Due (set_node ns x n2) (carried m (o.effects ++ Effect.Sent (Some t) s.peer (Handshake i) ∷ []))
    written o n2 p u i g nn h hu others row = subst (λ l. Due (set_node ns x n2) l)
        (sym (carried-push m o.effects t s.peer (Handshake i)))
        (changes o n2 (told_too o i) p u g nn h hu others (λ v z j. put_away (carried m o.effects) t s.peer _ v z j)
        (put_other (carried m o.effects) t s.peer _ x (λ j. far (sym ps ∙ sym j)))
        (λ v A r. row_with v (Some u) (Some u) _ _ A A refl (sym (to_dialer o i)) refl (row v _ A r)))

    pub sets_side : (o : Work) (p : Option TrunkSide) (u : State) → Going o → side_at o.node t ≡ p → of_far up_once (state_in p) ≡ false
        → of_far holds (state_in p) ≡ false
        → ((is_over u ≡ true) × (holds u ≡ false)) ⊎ (up_once u ≡ false) → role_state false u ≡ true → Going (set_state t s u o)
    sets_side o p u g h f hh c r = record {
      name = g.name;
      told = told_set o t (as_state s u) g (told_new u r);
      due = changes o (with_side_at o.node t (as_state s u)) (carried m o.effects) p u g g.name h (ap state_in (side_after_same o.node t _))
          (λ v i. side_after_other o.node t _ v i) (λ v z i. refl) refl
          (λ v A row. new_row u v (state_in p) _ A f hh c row);
    }

    -- and the dialer is told
    pub tells : (o : Work) (p : Option TrunkSide) (u : State) (i : ShakeMsg) → Going o → side_at o.node t ≡ p
        → of_far up_once (state_in p) ≡ false → of_far holds (state_in p) ≡ false
        → ((is_over u ≡ true) × (holds u ≡ false)) ⊎ (up_once u ≡ false) → role_state false u ≡ true → of_role true i ≡ true
        → is_accept (Handshake i) ≡ false → Going (write t s.peer i (set_state t s u o))
    tells o p u i g h f hh c r ri ai = record {
      name = g.name;
      told = told_set o t (as_state s u) g (told_new u r);
      due = written o (with_side_at o.node t (as_state s u)) p u i g g.name h (ap state_in (side_after_same o.node t _))
          (λ v j. side_after_other o.node t _ v j)
          (λ v D A row. new_row u v (state_in p) _ A f hh c (says_to_dialer v (state_in p) i D A f ri ai row));
    }

    -- and told more
    pub tells_more : (o : Work) (p : TrunkSide) (i : ShakeMsg) → Going o → side_at o.node t ≡ Some p → up_once p.state ≡ false
        → of_role true i ≡ true → is_accept (Handshake i) ≡ false → Going (write t s.peer i o)
    tells_more o p i g h f ri ai = record {
      name = g.name;
      told = g.told;
      due = written o o.node (Some p) p.state i g g.name h (ap state_in h) (λ v j. refl)
          (λ v D A row. says_to_dialer v (Some p.state) i D A f ri ai row);
    }
