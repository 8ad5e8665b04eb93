-- What is known of each trunk stays where a node has the same sides as before.
use Rattle.std.proofs.Common.{◌≡◌, ◌≤◌, Bool, true, false, cond, List, [], ◌∷◌, ◌++◌, refl, sym, ap}
use Rattle.std.proofs.Common.{◌∙◌, subst, arith, ◌&&◌, Option, Some, None, ◌⊎◌, inl, inr, append-nil}
use Rattle.std.proofs.lemmas.Bool.{and_parts}
use Rattle.std.proofs.lemmas.Option.{same_Some}
use Rattle.std.specs.Option.{is_some}
use Rattle.std.specs.FinMap as fm
use Rattle.dist_model.specs.declared.report.Effect.{Effect}
use Rattle.dist_model.proofs.Envelopes.{outgoing, sent_in}
use Rattle.dist_model.proofs.Calls.{IfGoes, by_name, by_test, calls}
use Rattle.dist_model.proofs.Home.{HomePairs, home_moves}
use Rattle.dist_model.proofs.Keys.{place_total, same_name_true, same_place, same_trunk, same_trunk_true}
use Rattle.dist_model.proofs.Moves.{Moves}
use Rattle.dist_model.proofs.Posts.{AllRouted, home_of}
use Rattle.dist_model.proofs.Pairs.{WorldKept}
use Rattle.dist_model.proofs.Routes.{at_place, list_to_carried, node_of_name, node_of_set_other, node_of_set_same}
use Rattle.dist_model.proofs.Sides.{Routed, at_place_none, holds, route_from, side_at, up_holds, up_not_gone}
use Rattle.dist_model.proofs.Steps.{moved}
use Rattle.dist_model.specs.Calls.{call}
use Rattle.dist_model.specs.Commands.{Accepts, Outcome, Refuses}
use Rattle.dist_model.specs.declared.command.Command.{Command}
use Rattle.dist_model.specs.Items.{Item, news}
use Rattle.dist_model.specs.Names.{Name, place_cmp, same_name}
use Rattle.dist_model.specs.Node.{Node, route_in}
use Rattle.dist_model.specs.Sides.{TrunkSide, is_up}
use Rattle.dist_model.specs.Work.{Work, at_work}
use Rattle.dist_model.specs.World.{World, carried, came_of, list_to, node_of, set_node}
use Rattle.erl_names.specs.Order.{trunk_cmp}
use Rattle.erl_names.specs.declared.trunk.TrunkId.{TrunkId}
use Rattle.std.specs.FinMap.{FinMap}
use Rattle.dist_model.proofs.Trunks.{went_up, holds_side, is_accept, is_reply, is_challenge, begun, has, Table, role_state}
use Rattle.dist_model.proofs.Trunks.{HomeKept, Posted, may_be_up, Likely, Anchor, up_likely, single_kept, partners, Good}
use Rattle.dist_model.proofs.Trunks.{early_not_holds, not_went_not_holds, not_begun_not_went, not_holds_not_up}

-- a node that has the same sides as before
pub record Was (ns : List Node) (y : Name) (a : Node) : Type 0 where
  pub old : Node
  pub at : node_of ns y ≡ Some old
  pub sides : (t : TrunkId) → side_at a t ≡ side_at old t

-- where no side changes
module _ (w : World) (x : Name) (n : Node) (o : Node) (m' : FinMap place_cmp (List Item)) (hx : node_of w.nodes x ≡ Some n) (g : Good w)
    (sd : o.sides ≡ n.sides) (dl : n.dialed ≤ o.dialed) (nm : o.mint.name ≡ n.mint.name)
    (core : WorldKept (record { names = w.names; nodes = set_node w.nodes x o; lists = m' }))
    (local : home_of o) (pairs : HomePairs o)
    (lists_same : (t : TrunkId) → ((s : TrunkSide) → side_at n t ≡ Some s → is_up s.state ≡ false) → (z : Name)
    → list_to m' t z ≡ list_to w.lists t z)
    (keys : (t : TrunkId) (z : Name) → is_some (fm.get m' (t, z)) ≡ true → (is_some (fm.get w.lists (t, z)) ≡ true) ⊎ Routed n z t) where
  nx : n.mint.name ≡ x
  nx = node_of_name w.nodes x n hx

  here : node_of (set_node w.nodes x o) x ≡ Some o
  here = node_of_set_same w.nodes x n o hx (nm ∙ nx)

  there : (y : Name) → (x ≡ y → ⊥) → node_of (set_node w.nodes x o) y ≡ node_of w.nodes y
  there y d = node_of_set_other w.nodes x y o (nm ∙ nx) d

  was : (y : Name) (a : Node) → node_of (set_node w.nodes x o) y ≡ Some a → Was w.nodes y a
  was y a h = by_name _ x y
      (λ e.
      let same : o ≡ a = same_Some o a (sym here ∙ ap (node_of (set_node w.nodes x o)) e ∙ h) in
      record { old = n; at = ap (node_of w.nodes) (sym e) ∙ hx; sides = λ t. ap (λ v. side_at v t) (sym same) ∙ ap (λ l. fm.get l t) sd })
      (λ d. record { old = a; at = sym (there y d) ∙ h; sides = λ t. refl })

  -- x isn't up on a trunk of which neither side holds
  not_up : (t : TrunkId) (d a : Node) (s : TrunkSide) → node_of w.nodes t.dialer ≡ Some d → side_at d t ≡ Some s
      → node_of w.nodes s.peer ≡ Some a → holds s.state ≡ false → holds_side (side_at a t) ≡ false
      → (v : TrunkSide) → side_at n t ≡ Some v → is_up v.state ≡ false
  not_up t d a s hd fs ha ns na v fv = by_name _ x t.dialer
      (λ e.
      let same : d ≡ n = same_Some d n (sym hd ∙ ap (node_of w.nodes) (sym e) ∙ hx) in
      let sv : s ≡ v = same_Some s v (sym fs ∙ ap (λ z. side_at z t) same ∙ fv) in
      not_holds_not_up v.state (ap (λ (z : TrunkSide). holds z.state) (sym sv) ∙ ns))
      (λ e.
      let u = g.core.met x n t v hx fv (λ i. e (sym i)) in
      let same : u.dialer ≡ d = same_Some u.dialer d (sym u.at ∙ hd) in
      let su : u.side ≡ s = same_Some u.side s (sym u.there ∙ ap (λ z. side_at z t) same ∙ fs) in
      let px : s.peer ≡ x = ap (λ (z : TrunkSide). z.peer) (sym su) ∙ u.peer in
      let an : a ≡ n = same_Some a n (sym ha ∙ ap (node_of w.nodes) px ∙ hx) in
      not_holds_not_up v.state (sym (ap holds_side (ap (λ z. side_at z t) an ∙ fv)) ∙ na))

  new_table : Table (set_node w.nodes x o) m'
  new_table t d a s hd fs ha =
      let wd = was t.dialer d hd in
      let wa = was s.peer a ha in
      let fs0 : side_at wd.old t ≡ Some s = sym (wd.sides t) ∙ fs in
      let r = g.table t wd.old wa.old s wd.at fs0 wa.at in
      let same : holds s.state ≡ false → holds_side (side_at wa.old t) ≡ false → (z : Name) → list_to m' t z ≡ list_to w.lists t z =
      λ ns na. lists_same t (not_up t wd.old wa.old s wd.at fs0 wa.at ns na) in
      record {
        before = λ h.
            let h0 : went_up (side_at wa.old t) ≡ false = ap went_up (sym (wa.sides t)) ∙ h in
            let b = r.before h0 in
            let l = same b.0 (not_went_not_holds (side_at wa.old t) h0) in (
              b.0,
              ap (has is_accept) (l t.dialer) ∙ b.1,
              λ p q. ap (news p q) (l t.dialer) ∙ b.2 p q,
              λ p q. ap (news p q) (l s.peer) ∙ b.3 p q,
            );
        early = λ h.
            let b = r.early h in
            let l = same (early_not_holds s.state h) b.0 in
            (ap holds_side (wa.sides t) ∙ b.0, ap (has is_reply) (l s.peer) ∙ b.1, ap (has is_accept) (l t.dialer) ∙ b.2);
        waits = λ h.
            let h0 : begun (side_at wa.old t) ≡ false = ap begun (sym (wa.sides t)) ∙ h in
            let b = r.waits h0 in
            let g0 = not_begun_not_went (side_at wa.old t) h0 in
            let l = same (r.before g0).0 (not_went_not_holds (side_at wa.old t) g0) in
            (ap (has is_challenge) (l t.dialer) ∙ b.0, ap (has is_reply) (l s.peer) ∙ b.1);
      }

  new_home : (y : Name) (a : Node) → node_of (set_node w.nodes x o) y ≡ Some a → HomeKept a
  new_home y a h = by_name _ x y
      (λ e.
      let same : o ≡ a = same_Some o a (sym here ∙ ap (node_of (set_node w.nodes x o)) e ∙ h) in
      let k = g.home x n hx in
      subst (λ v. HomeKept v) same (record {
        local = local;
        pairs = pairs;
        roles = λ t s f. ap (λ v. role_state (same_name t.dialer v) s.state) nm ∙ k.roles t s (ap (λ l. fm.get l t) (sym sd) ∙ f);
        counts = λ t s f i. let c = k.counts t s (ap (λ l. fm.get l t) (sym sd) ∙ f) (i ∙ nm) in omega (arith, c, dl);
      }))
      (λ d. g.home y a (sym (there y d) ∙ h))

  still_posted : (t : TrunkId) (z : Name) → Posted w.nodes t z → Posted (set_node w.nodes x o) t z
  still_posted t z h = by_name _ x t.dialer
      (λ e.
      let same : h.1 ≡ n = same_Some h.1 n (sym h.2 ∙ ap (node_of w.nodes) (sym e) ∙ hx) in
      (h.0, o, ap (node_of (set_node w.nodes x o)) (sym e) ∙ here, ap (λ l. fm.get l t) sd ∙ ap (λ v. side_at v t) (sym same) ∙ h.3, h.4))
      (λ d. (h.0, h.1, there t.dialer d ∙ h.2, h.3, h.4))

  routed_posted : (t : TrunkId) (z : Name) → Routed n z t → Posted w.nodes t z
  routed_posted t z r = pick ((g.core.sides x n hx).mine t r.found r.there)
    where
      pick : (t.dialer ≡ n.mint.name) ⊎ (t.dialer ≡ r.found.peer) → (s : TrunkSide) × (d : Node)
          × (node_of w.nodes t.dialer ≡ Some d) × (side_at d t ≡ Some s) × ((t.dialer ≡ z) ⊎ (s.peer ≡ z))
      pick (inl e) = (r.found, n, ap (node_of w.nodes) (e ∙ nx) ∙ hx, r.there, inr r.peer)
      pick (inr e) =
          let u = g.core.met x n t r.found hx r.there (λ i. (g.core.sides x n hx).other t r.found r.there (sym e ∙ i ∙ sym nx)) in
          (u.side, u.dialer, u.at, u.there, inl (e ∙ r.peer))

  new_posted : (t : TrunkId) (z : Name) → is_some (fm.get m' (t, z)) ≡ true → Posted (set_node w.nodes x o) t z
  new_posted t z h = go (keys t z h)
    where
      go : (is_some (fm.get w.lists (t, z)) ≡ true) ⊎ Routed n z t → Posted (set_node w.nodes x o) t z
      go (inl i) = still_posted t z (posted_before i)
        where
          posted_before : is_some (fm.get w.lists (t, z)) ≡ true → Posted w.nodes t z
          posted_before i = g.posted t z i
      go (inr r) = still_posted t z (routed_posted t z r)

  -- on a trunk on which x is up, x is the anchor of the other side
  each : (y z : Name) (t : TrunkId) (b : Node) → node_of (set_node w.nodes x o) z ≡ Some b
      → Likely (set_node w.nodes x o) m' y t z → Likely w.nodes w.lists y t z ⊎ Anchor (set_node w.nodes x o) z t y
  each y z t b hb l = go (side_at n t) refl
    where
      wl : Was w.nodes y l.node
      wl = was y l.node l.at

      old_side : side_at wl.old t ≡ Some l.side
      old_side = sym (wl.sides t) ∙ l.there

      same_list : list_to m' t y ≡ list_to w.lists t y → Likely w.nodes w.lists y t z
      same_list e = record {
        node = wl.old;
        at = wl.at;
        side = l.side;
        there = old_side;
        peer = l.peer;
        may = ap (may_be_up l.side.state) (sym e) ∙ l.may;
      }

      up_at : (s : TrunkSide) → side_at n t ≡ Some s → is_up s.state ≡ true → Likely w.nodes w.lists y t z
          ⊎ Anchor (set_node w.nodes x o) z t y
      up_at s hs u = by_name _ x y
          (λ e.
          let nw : n ≡ wl.old = same_Some n wl.old (sym hx ∙ ap (node_of w.nodes) e ∙ wl.at) in
          let ss : s ≡ l.side = same_Some s l.side (sym hs ∙ ap (λ v. side_at v t) nw ∙ old_side) in
          inl (record {
            node = wl.old;
            at = wl.at;
            side = l.side;
            there = old_side;
            peer = l.peer;
            may = up_likely l.side.state _ (ap (λ (v : TrunkSide). is_up v.state) (sym ss) ∙ u);
          }))
          (λ d.
          let p = partners w g.core x y n wl.old t s l.side hx wl.at hs old_side d in
          inr (record {
            node = o;
            at = ap (node_of (set_node w.nodes x o)) (sym l.peer ∙ p.1) ∙ here;
            side = s;
            there = ap (λ v. fm.get v t) sd ∙ hs;
            peer = p.0;
            stays = up_not_gone s.state u;
            goes_on = (up_holds s.state u).1;
          }))

      go : (c : Option TrunkSide) → side_at n t ≡ c → Likely w.nodes w.lists y t z ⊎ Anchor (set_node w.nodes x o) z t y
      go None e =
          inl (same_list (lists_same t
          (λ v hv. let c : false ≡ true = sym (ap is_some e) ∙ ap is_some hv in absurd (let f : true ≡ false = sym c in cc)) y))
      go (Some s) e =
          by_test _ (is_up s.state) (up_at s e)
          (λ nu. inl (same_list (lists_same t (λ v hv. ap (λ (k : TrunkSide). is_up k.state) (same_Some v s (sym hv ∙ e)) ∙ nu) y)))

  pub good_changed : Good (record { names = w.names; nodes = set_node w.nodes x o; lists = m' })
  good_changed = record {
    core = core;
    home = new_home;
    table = new_table;
    posted = new_posted;
    single = single_kept w.nodes w.lists (set_node w.nodes x o) m' core.sides each g.single;
  }

-- keys of the lists
pub insert_key : (m : FinMap place_cmp (List Item)) (u : TrunkId) (y : Name) (l : List Item) (t : TrunkId) (z : Name)
    → is_some (fm.get (fm.insert m (u, y) l) (t, z)) ≡ true → (is_some (fm.get m (t, z)) ≡ true) ⊎ ((t ≡ u) × (z ≡ y))
insert_key m u y l t z h = go (same_trunk t u && same_name z y) refl
    (sym (ap is_some (fm.get-insert place_total m (u, y) l (t, z))
    ∙ ap (λ b. is_some (cond b (Some l) (fm.get m (t, z)))) (same_place t u z y)) ∙ h)
  where
    go : (b : Bool) → (same_trunk t u && same_name z y) ≡ b → is_some (cond b (Some l) (fm.get m (t, z))) ≡ true
        → (is_some (fm.get m (t, z)) ≡ true) ⊎ ((t ≡ u) × (z ≡ y))
    go true e h = let v = and_parts (same_trunk t u) (same_name z y) e in inr (same_trunk_true t u v.0, same_name_true z y v.1)
    go false e h = inl h

pub carried_key : (sd : FinMap trunk_cmp TrunkSide) (m : FinMap place_cmp (List Item)) (fs : List (Effect Item)) (t : TrunkId) (z : Name)
    → AllRouted sd (sent_in fs) → is_some (fm.get (carried m fs) (t, z)) ≡ true → (is_some (fm.get m (t, z)) ≡ true)
    ⊎ (route_in (fm.entries sd) z ≡ Some t)
carried_key sd m [] t z a h = inl h
carried_key sd m (Effect.Sent (Some u) y x ∷ fs) t z a h = go (carried_key sd (fm.insert m (u, y) (list_to m u y ++ x ∷ [])) fs t z a.1 h)
  where
    last : (is_some (fm.get m (t, z)) ≡ true) ⊎ ((t ≡ u) × (z ≡ y)) → (is_some (fm.get m (t, z)) ≡ true)
        ⊎ (route_in (fm.entries sd) z ≡ Some t)
    last (inl i) = inl i
    last (inr i) = inr (ap (route_in (fm.entries sd)) i.1 ∙ a.0 ∙ ap Some (sym i.0))

    go : (is_some (fm.get (fm.insert m (u, y) (list_to m u y ++ x ∷ [])) (t, z)) ≡ true)
        ⊎ (route_in (fm.entries sd) z ≡ Some t) → (is_some (fm.get m (t, z)) ≡ true) ⊎ (route_in (fm.entries sd) z ≡ Some t)
    go (inl i) = last (insert_key m u y _ t z i)
    go (inr i) = inr i
carried_key sd m (_ ∷ fs) t z a h = carried_key sd m fs t z a h

pub unsent : (n : Node) (o : Work) (t : TrunkId) (z : Name) → o.node.sides ≡ n.sides → AllRouted o.node.sides (outgoing o)
    → ((s : TrunkSide) → side_at n t ≡ Some s → is_up s.state ≡ false) → at_place t z (outgoing o) ≡ []
unsent n o t z sd ro nu = at_place_none o.node.sides (outgoing o) t z ro (λ r.
    let u = route_from n z t (ap (λ l. route_in (fm.entries l) z) (sym sd) ∙ r) in
    let c : true ≡ false = sym u.up ∙ nu u.found u.there in cc)

pub key_of : (n : Node) (o : Work) (t : TrunkId) (z : Name) → o.node.sides ≡ n.sides → (P : Type 0) → P
    ⊎ (route_in (fm.entries o.node.sides) z ≡ Some t) → P ⊎ Routed n z t
key_of n o t z sd P (inl h) = inl h
key_of n o t z sd P (inr h) = inr (route_from n z t (ap (λ l. route_in (fm.entries l) z) (sym sd) ∙ h))

-- a part of an event in which no pair takes a signal
pub good_moved : (w : World) (x : Name) (n : Node) (o : Work) → node_of w.nodes x ≡ Some n → Moves (at_work n) o → Good w
    → Good (record { names = w.names; nodes = set_node w.nodes x o.node; lists = carried w.lists o.effects })
good_moved w x n o hx f g =
    let kn = g.core.nodes x n hx in
    let hk = g.home x n hx in
    let ro : AllRouted o.node.sides (outgoing o) = f.routed tt in
    good_changed w x n o.node (carried w.lists o.effects) hx g f.sides (omega (arith, f.dialed)) f.name
    (moved w x n o hx f g.core) (f.home kn hk.local) (home_moves (at_work n) o f kn hk.pairs)
    (λ t nu z. list_to_carried w.lists o.effects t z ∙ ap (λ l. list_to w.lists t z ++ l) (unsent n o t z f.sides ro nu)
    ∙ append-nil (list_to w.lists t z))
    (λ t z h. key_of n o t z f.sides _ (carried_key o.node.sides w.lists o.effects t z ro h))

pub good_call : (w : World) (x : Name) (n : Node) (c : Command) → node_of w.nodes x ≡ Some n → Good w
    → Good ((came_of w x w.lists (call n c)).world)
good_call w x n c hx g = go (call n c) (calls n c)
  where
    go : (o : Outcome) → IfGoes o (Moves (at_work n)) → Good ((came_of w x w.lists o).world)
    go (Refuses j) h = g
    go (Accepts a o) h = good_moved w x n o hx h g
