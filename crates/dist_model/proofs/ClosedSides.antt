-- The events that close sides.
use Rattle.std.proofs.Common.{not, ◌+◌, ◌≡◌, ℕ, Bool, true, false, cond, List, [], ◌∷◌, ◌++◌, refl}
use Rattle.std.proofs.Common.{sym, ap, ◌∙◌, subst, ◌&&◌, Option, Some, None, ◌⊎◌, inl, inr, T}
use Rattle.std.proofs.lemmas.Bool.{and_parts}
use Rattle.std.proofs.lemmas.Option.{same_Some}
use Rattle.std.specs.Option.{is_some}
use Rattle.std.specs.FinMap as fm
use Rattle.std.specs.Ordering.{eq_by_cmp, is_eq}
use Rattle.std.specs.FinMap.Entries.{find, is_sorted, below_all}
use Rattle.std.specs.Cmp.{tied_itself}
use Rattle.sorted_map.specs.Facts.{both_pass}
use Rattle.dist_model.specs.declared.report.Effect.{Effect}
use Rattle.dist_model.proofs.Calls.{by_name, by_test}
use Rattle.dist_model.proofs.Handshake.{as_state, hold_kind, in_state}
use Rattle.dist_model.proofs.Home.{HomePairs}
use Rattle.dist_model.proofs.Keys.{same_name_is, same_name_true, same_pid_true, trunk_total, below_key, trunk_exact}
use Rattle.dist_model.proofs.Posts.{HomeItem, Homely, NodeKept, held, home_of, home_saying}
use Rattle.dist_model.proofs.NewSides.{set_twice}
use Rattle.dist_model.proofs.Pair.{keeps_stop}
use Rattle.dist_model.proofs.Pairs.{Met, WorldKept}
use Rattle.dist_model.proofs.Primitives.{good_pushed}
use Rattle.dist_model.proofs.SideChanges.{Holder, held_by, side_after_other, side_after_same, with_side_at}
use Rattle.dist_model.proofs.Routes.{node_of_name, node_of_set_other, node_of_set_same, side_where_found}
use Rattle.dist_model.proofs.Seen.{close_if, end_in}
use Rattle.dist_model.proofs.Sides.{SidesKept, asks, beside, holds, joined, side_at, not_beside}
use Rattle.dist_model.proofs.Steps.{kind}
use Rattle.dist_model.proofs.Sweeps.{good_closed, good_unparked, sweep_moves}
use Rattle.dist_model.proofs.Trunks.{begun, begun_state, Good, HomeKept, is_accept, is_challenge, is_reply}
use Rattle.dist_model.proofs.Trunks.{Likely, may_be_up, Posted, role_gone, role_state, Row, single_kept}
use Rattle.dist_model.proofs.TrunksStay.{good_moved}
use Rattle.dist_model.proofs.Views.{over, side_of, telling_news}
use Rattle.dist_model.specs.Handshake.{challenge, set_state, with_side, write}
use Rattle.dist_model.specs.Incarnations.{all_gone, started, stopped}
use Rattle.dist_model.specs.Items.{Handshake, Item, Signalled, news, news_in, telling}
use Rattle.dist_model.proofs.Records.{has_records, least_as, sweep_link}
use Rattle.dist_model.specs.Losses.{least_record, sweep_record, any_side, close_side, link_to}
use Rattle.dist_model.specs.Losses.{released_by, release_parked, sweep, sweep_by, close_if_swept}
use Rattle.dist_model.specs.Names.{Name, pair_cmp, place_cmp, same_name, same_pid}
use Rattle.dist_model.specs.Node.{Node, end_of, is_living_life, is_stranger, side_where}
use Rattle.dist_model.specs.Sides.{Accepting, Gone, Losing, Parked, State, TrunkSide, is_gone, is_losing, is_parked, is_up}
use Rattle.dist_model.specs.Work.{Work, at_work}
use Rattle.dist_model.specs.World.{World, carried, came_of, list_to, node_of, set_node}
use Rattle.erl_handshake.specs.declared.message.ShakeMsg.{ShakeMsg}
use Rattle.erl_names.specs.Order.{trunk_cmp}
use Rattle.erl_names.specs.declared.trunk.TrunkId.{TrunkId}
use Rattle.erl_term.specs.Order.{pid_cmp}
use Rattle.erl_term.specs.declared.term.Pid.{Pid}
use Rattle.link_core.proofs.Kept.{Kept, blank, side_path}
use Rattle.link_core.specs.News.{LinkNews}
use Rattle.link_core.specs.declared.end.End.{End}
use Rattle.std.specs.FinMap.{FinMap}

pub any_found : (test : State → Bool) (es : List (TrunkId × TrunkSide)) (e : TrunkId × TrunkSide) → T (is_sorted trunk_cmp es)
    → any_side test es ≡ Some e → (find trunk_cmp e.0 es ≡ Some e.1) × (test e.1.state ≡ true)
any_found test [] e s h = let c : false ≡ true = ap is_some h in cc
any_found test (d ∷ es) e s h =
    elim (test d.1.state) as (λ b. test d.1.state ≡ b → cond b (Some d) (any_side test es) ≡ Some e
    → (find trunk_cmp e.0 (d ∷ es) ≡ Some e.1) × (test e.1.state ≡ true)) [
      | true ↦ λ i j.
          let k : d ≡ e = same_Some d e j in
          subst (λ z. (find trunk_cmp z.0 (d ∷ es) ≡ Some z.1) × (test z.1.state ≡ true)) k
          (ap (λ c. cond (is_eq c) (Some d.1) (find trunk_cmp d.0 es)) (tied_itself trunk_total d.0), i)
      | false ↦ λ i j.
          let r = any_found test es e (both_pass (below_all trunk_cmp d.0 es) (is_sorted trunk_cmp es) s).1 j in (
            ap (λ b. cond b (Some d.1) (find trunk_cmp e.0 es))
                (below_key trunk_cmp trunk_exact e.0 d.0 e.1 es (both_pass (below_all trunk_cmp d.0 es) (is_sorted trunk_cmp es) s).0 r.0)
                ∙ r.0,
            r.1,
          )
    ] refl h

pub losing_is : (v : State) → is_losing v ≡ true → v ≡ Losing
losing_is Losing h = refl
losing_is _ h = cc

parked_is : (v : State) → is_parked v ≡ true → (k : ℕ) × (v ≡ Parked k)
parked_is (Parked w) h = (w, refl)
parked_is _ h = cc

-- the one that held y is gone: nobody holds y any more
freed : (n : Node) (t : TrunkId) (v : TrunkSide) → SidesKept n → side_at n t ≡ Some v → v.state ≡ Losing
    → held (with_side_at n t (as_state v Gone)) v.peer ≡ false
freed n t v k h e =
    by_test _ (held (with_side_at n t (as_state v Gone)) v.peer)
    (λ r. absurd (go (held_by (with_side_at n t (as_state v Gone)) v.peer r))) (λ r. r)
  where
    at : (u : TrunkId) (b : TrunkSide) → side_at (with_side_at n t (as_state v Gone)) u ≡ Some b → holds b.state ≡ true
        → (u ≡ t → ⊥) × (side_at n u ≡ Some b)
    at u b f hb =
        let d : u ≡ t → ⊥ = λ i.
        let s : as_state v Gone ≡ b =
        same_Some (as_state v Gone) b
        (sym (side_after_same n t (as_state v Gone)) ∙ ap (side_at (with_side_at n t (as_state v Gone))) (sym i) ∙ f) in
        let c : true ≡ false = sym hb ∙ ap (λ (z : TrunkSide). holds z.state) (sym s) in cc in
        (d, sym (side_after_other n t (as_state v Gone) u d) ∙ f)

    pick : (b : TrunkSide) (u : TrunkId) → holds b.state ≡ true → (u ≡ t → ⊥) → (t ≡ u) ⊎ (beside v.state b.state ≡ true) → ⊥
    pick b u hb d (inl i) = d (sym i)
    pick b u hb d (inr i) = not_beside v.state b.state (ap asks e) ((hold_kind b.state hb).2) i

    go : (same_name v.peer n.mint.name ≡ true) ⊎ Holder (with_side_at n t (as_state v Gone)) v.peer → ⊥
    go (inl i) = k.other t v h (same_name_true v.peer n.mint.name i)
    go (inr m) =
        let a = at m.trunk m.side m.at m.holding in
        pick m.side m.trunk m.holding a.0
        (k.one t m.trunk v m.side h a.1 (sym m.peer) (ap is_gone e) ((hold_kind m.side.state m.holding).3))

-- what a handshake message to the own peer needs
pub good_written : (w : World) (x : Name) (n : Node) (t : TrunkId) (v : TrunkSide) (m : ShakeMsg) → node_of w.nodes x ≡ Some n
    → side_at n t ≡ Some v → is_accept (Handshake m) ≡ false → is_reply (Handshake m) ≡ false
    → (is_challenge (Handshake m) ≡ true → (k : ℕ) × (v.state ≡ Accepting k)) → Good w
    → Good
    (record { names = w.names; nodes = w.nodes; lists = fm.insert w.lists (t, v.peer) (list_to w.lists t v.peer ++ Handshake m ∷ []) })
good_written w x n t v m hx h na nr ch g = good_pushed w t v.peer m g known
    (λ d a s hd hs ha. (
      λ j. let c : true ≡ false = sym j ∙ na in cc,
      λ j. let c : true ≡ false = sym j ∙ nr in cc,
      λ j. challenged d a s hd hs ha (ch j),
      λ j. let c : true ≡ false = sym j ∙ nr in cc,
    ))
    (λ j z l. absurd (neither j))
  where
    nx : n.mint.name ≡ x
    nx = node_of_name w.nodes x n hx

    neither : (is_accept (Handshake m) ≡ true) ⊎ (is_reply (Handshake m) ≡ true) → ⊥
    neither (inl j) = let c : true ≡ false = sym j ∙ na in cc
    neither (inr j) = let c : true ≡ false = sym j ∙ nr in cc

    challenged : (d a : Node) (s : TrunkSide) → node_of w.nodes t.dialer ≡ Some d → side_at d t ≡ Some s
        → node_of w.nodes s.peer ≡ Some a → (k : ℕ) × (v.state ≡ Accepting k) → begun (side_at a t) ≡ true
    challenged d a s hd hs ha k =
        let nd : t.dialer ≡ x → ⊥ = λ i.
        let c : false ≡ true =
        sym (ap (λ b. role_state b v.state) (same_name_is t.dialer n.mint.name (i ∙ sym nx)) ∙ ap (role_state true) k.1)
        ∙ (g.home x n hx).roles t v h in cc in
        let u = g.core.met x n t v hx h nd in
        let dn : u.dialer ≡ d = same_Some u.dialer d (sym u.at ∙ hd) in
        let us : u.side ≡ s = same_Some u.side s (sym u.there ∙ ap (λ z. side_at z t) dn ∙ hs) in
        let an : n ≡ a = same_Some n a (sym hx ∙ ap (node_of w.nodes) (sym u.peer ∙ ap (λ (z : TrunkSide). z.peer) us) ∙ ha) in
        ap begun (ap (λ z. side_at z t) (sym an) ∙ h) ∙ ap begun_state k.1

    dialer_is : (t.dialer ≡ n.mint.name) ⊎ (t.dialer ≡ v.peer) → (t.dialer ≡ x → ⊥) → t.dialer ≡ v.peer
    dialer_is (inl j) k = absurd (k (j ∙ nx))
    dialer_is (inr j) k = j

    known : Posted w.nodes t v.peer
    known = by_test _ (same_name t.dialer x)
        (λ c. let d : t.dialer ≡ x = same_name_true t.dialer x c in (v, n, ap (node_of w.nodes) d ∙ hx, h, inr refl))
        (λ c.
        let d : t.dialer ≡ x → ⊥ = λ j. let z : true ≡ false = sym (same_name_is t.dialer x j) ∙ c in cc in
        let k = g.core.met x n t v hx h d in
        (k.side, k.dialer, k.at, k.there, inl (dialer_is ((g.core.sides x n hx).mine t v h) d)))

pub carried-push : (m : FinMap place_cmp (List Item)) (fs : List (Effect Item)) (t : TrunkId) (y : Name) (x : Item)
    → carried m (fs ++ Effect.Sent (Some t) y x ∷ []) ≡ fm.insert (carried m fs) (t, y) (list_to (carried m fs) t y ++ x ∷ [])
carried-push m [] t y x = refl
carried-push m (Effect.Sent (Some u) z i ∷ fs) t y x = carried-push (fm.insert m (u, z) (list_to m u z ++ i ∷ [])) fs t y x
carried-push m (_ ∷ fs) t y x = carried-push m fs t y x

abbrev pub placed : World → Name → Work → World
placed w x o = record { names = w.names; nodes = set_node w.nodes x o.node; lists = carried w.lists o.effects }

-- with a side in a new state
pub placed_state : (w : World) (x : Name) (o : Work) (t : TrunkId) (s : TrunkSide) → o.node.mint.name ≡ x
    → Good (in_state (placed w x o) x o.node t s) → Good (placed w x (with_side t s o))
placed_state w x o t s e g =
    subst (λ ns. Good (record { names = w.names; nodes = ns; lists = carried w.lists o.effects }))
    (set_twice w.nodes x o.node (with_side_at o.node t s) e) g

pub placed_write : (w : World) (x : Name) (o : Work) (t : TrunkId) (y : Name) (m : ShakeMsg) → Good (record {
  names = w.names;
  nodes = set_node w.nodes x o.node;
  lists = fm.insert (carried w.lists o.effects) (t, y)
      (list_to (carried w.lists o.effects) t y ++ Handshake m ∷ []);
}) → Good (placed w x (write t y m o))
placed_write w x o t y m g =
    subst (λ l. Good (record { names = w.names; nodes = set_node w.nodes x o.node; lists = l }))
    (sym (carried-push w.lists o.effects t y (Handshake m))) g

-- a sweep
module _ (w : World) (x : Name) (n : Node) (hx : node_of w.nodes x ≡ Some n) where
  -- the node in the midst of the event, after which the side t is to be closed
  closes : (o : Work) (t : TrunkId) (v : TrunkSide) → o.node.mint.name ≡ x → side_at o.node t ≡ Some v → v.state ≡ Losing
      → has_records v.peer o.node ≡ false → Good (placed w x o) → Good (placed w x (close_side t v o))
  closes o t v e h los clean g =
      let hw : node_of (placed w x o).nodes x ≡ Some o.node = node_of_set_same w.nodes x n o.node hx e in
      let o1 = set_state t v Gone o in
      let g1 : Good (placed w x o1) = placed_state w x o t (as_state v Gone) e (good_closed (placed w x o) x o.node t v hw h clean g) in
      unparks o1 e (freed o.node t v (g.core.sides x o.node hw) h los) g1 (side_where is_parked v.peer (fm.entries o1.node.sides)) refl
    where
      go_by : (o1 : Work) → o1.node.mint.name ≡ x → (u : TrunkId) (b : TrunkSide) → side_at o1.node u ≡ Some b
          → held o1.node b.peer ≡ false → Good (placed w x o1) → (a : State) → b.state ≡ a → is_parked a ≡ true
          → Good (placed w x (release_parked (Some (u, b)) o1))
      go_by o1 e u b hb nh g a ea pa =
          let k = parked_is b.state (ap is_parked ea ∙ pa) in
          let hw : node_of (placed w x o1).nodes x ≡ Some o1.node = node_of_set_same w.nodes x n o1.node hx e in
          let s = as_state b (Accepting k.0) in
          let g2 : Good (placed w x (set_state u b (Accepting k.0) o1)) =
          placed_state w x o1 u s e (good_unparked (placed w x o1) x o1.node u b k.0 hw hb (ap asks k.1) nh g) in
          let o2 = set_state u b (Accepting k.0) o1 in
          let hw2 : node_of (placed w x o2).nodes x ≡ Some o2.node = node_of_set_same w.nodes x n o2.node hx e in
          let g3 : Good (placed w x (write u b.peer (challenge o1.node k.0) o2)) =
          placed_write w x o2 u b.peer (challenge o1.node k.0) (good_written (placed w x o2) x o2.node u s
          (challenge o1.node k.0) hw2 (side_after_same o1.node u s) refl refl (λ j. (k.0, refl)) g2) in
          subst (λ z. Good (placed w x (released_by z u b o1))) (sym k.1) g3

      unparks : (o1 : Work) → o1.node.mint.name ≡ x → held o1.node v.peer ≡ false → Good (placed w x o1)
          → (d : Option (TrunkId × TrunkSide)) → side_where is_parked v.peer (fm.entries o1.node.sides) ≡ d
          → Good (placed w x (release_parked d o1))
      unparks o1 e nh g None i = g
      unparks o1 e nh g (Some d) i =
          let f = side_where_found is_parked v.peer (fm.entries o1.node.sides) d (fm.entries_sorted o1.node.sides) i in
          go_by o1 e d.0 d.1 (fm.get-entries o1.node.sides d.0 ∙ f.there) (ap (held o1.node) f.peer ∙ nh) g d.1.state refl f.passes

  swept_by : (o : Work) (t : TrunkId) (v : TrunkSide) → o.node.mint.name ≡ x → side_at o.node t ≡ Some v → v.state ≡ Losing
      → Good (placed w x o) → Good (placed w x (close_if_swept t v o))
  swept_by o t v e h los g = go (has_records v.peer o.node) refl
    where
      go : (b : Bool) → has_records v.peer o.node ≡ b → Good (placed w x (close_if b t v o))
      go true i = g
      go false i = closes o t v e h los i g

  pub good_sweep : Good w → Good ((came_of w x w.lists (sweep n)).world)
  good_sweep g = go (any_side is_losing (fm.entries n.sides)) refl
    where
      go : (d : Option (TrunkId × TrunkSide)) → any_side is_losing (fm.entries n.sides) ≡ d
          → Good ((came_of w x w.lists (sweep_by d (at_work n))).world)
      go None i = g
      go (Some d) i =
          let r = any_found is_losing (fm.entries n.sides) d (fm.entries_sorted n.sides) i in
          let los : d.1.state ≡ Losing = losing_is d.1.state r.1 in
          let h : side_at n d.0 ≡ Some d.1 = fm.get-entries n.sides d.0 ∙ r.0 in
          let f = sweep_moves n d.0 d.1 (g.core.nodes x n hx) (g.core.sides x n hx) h los in
          let o = sweep_link (link_to d.1.peer (fm.entries n.ends)) d.1.peer (at_work n) in
          let same : (sweep_record (least_record d.1.peer n) (at_work n)) ≡ o = least_as d.1.peer (at_work n) in
          subst (λ z. Good (placed w x (close_if_swept d.0 d.1 z))) (sym same) (swept_by o d.0 d.1
          (f.name ∙ node_of_name w.nodes x n hx) (ap (λ l. fm.get l d.0) f.sides ∙ h) los (good_moved w x n o hx f g))

-- a node stops or starts
abbrev pub gone_side : Option TrunkSide → Option TrunkSide
gone_side None = None
gone_side (Some s) = Some (as_state s Gone)

find_gone : (t : TrunkId) (es : List (TrunkId × TrunkSide)) → find trunk_cmp t (all_gone es) ≡ gone_side (find trunk_cmp t es)
find_gone t [] = refl
find_gone t (e ∷ es) =
    elim (eq_by_cmp trunk_cmp t e.0) as
    (λ b. cond b (Some (as_state e.1 Gone)) (find trunk_cmp t (all_gone es)) ≡ gone_side (cond b (Some e.1) (find trunk_cmp t es)))
    [ true ↦ refl | false ↦ find_gone t es ]

-- without processes and records, and with all sides gone
abbrev cleared : Node → (c : ℕ) → Bool → (s r u : ℕ) → List Item → Node
cleared n c b s r u l = record n {
  mint = record { name = n.mint.name; creation = c; pids = s; references = r; unlink_ids = u };
  up = b;
  lives = fm.empty;
  names = fm.empty;
  ends = fm.empty;
  watches = fm.empty;
  registered = fm.empty;
  sides = fm.from_entries (all_gone (fm.entries n.sides));
  local = l;
}

pub gone_sides : (n : Node) (t : TrunkId)
    → fm.get {R = trunk_cmp} (fm.from_entries (all_gone (fm.entries n.sides))) t ≡ gone_side (side_at n t)
gone_sides n t =
    fm.get-from_entries trunk_total (all_gone (fm.entries n.sides)) t ∙ find_gone t (fm.entries n.sides)
    ∙ ap gone_side (sym (fm.get-entries n.sides t))

record Cleared (n : Node) (t : TrunkId) (s : TrunkSide) : Type 0 where
  old : TrunkSide
  was : side_at n t ≡ Some old
  now : s ≡ as_state old Gone

was_side : (n : Node) (t : TrunkId) (s : TrunkSide)
    → fm.get {R = trunk_cmp} (fm.from_entries (all_gone (fm.entries n.sides))) t ≡ Some s → Cleared n t s
was_side n t s h = go (side_at n t) refl (sym (gone_sides n t) ∙ h)
  where
    go : (o : Option TrunkSide) → side_at n t ≡ o → gone_side o ≡ Some s → Cleared n t s
    go None i j = let k : false ≡ true = ap is_some j in cc
    go (Some v) i j = record { old = v; was = i; now = sym (same_Some (as_state v Gone) s j) }

module _ (w : World) (x : Name) (n : Node) (hx : node_of w.nodes x ≡ Some n) (c : ℕ) (b : Bool) (sp rf ul : ℕ) (lc : List Item) (g : Good w)
    (lo : home_of (cleared n c b sp rf ul lc)) (pr : HomePairs (cleared n c b sp rf ul lc)) where
  nz : n.mint.name ≡ x
  nz = node_of_name w.nodes x n hx

  abbrev nc : Node
  nc = cleared n c b sp rf ul lc

  here3 : node_of (set_node w.nodes x nc) x ≡ Some nc
  here3 = node_of_set_same w.nodes x n nc hx nz

  there3 : (y : Name) → (x ≡ y → ⊥) → node_of (set_node w.nodes x nc) y ≡ node_of w.nodes y
  there3 y d = node_of_set_other w.nodes x y nc nz d

  is_nc : (y : Name) (a : Node) → x ≡ y → node_of (set_node w.nodes x nc) y ≡ Some a → nc ≡ a
  is_nc y a e h = same_Some nc a (sym here3 ∙ ap (node_of (set_node w.nodes x nc)) e ∙ h)

  nc_end : (p q : Pid) → end_of nc p q ≡ End.None
  nc_end p q = ap end_in (fm.get-empty pair_cmp (p, q))

  nc_kept : NodeKept nc
  nc_kept = record {
    born = λ p l. let e : false ≡ true = sym (ap is_living_life (fm.get-empty pid_cmp p)) ∙ l in cc;
    rooted = λ p q e. absurd (e (nc_end p q));
  }

  nc_sides : SidesKept nc
  nc_sides = record {
    one = λ t u s v hs hv e ng ng2. let k = was_side n t s hs in
        let z : true ≡ false = sym (ap (λ (y : TrunkSide). is_gone y.state) k.now) ∙ ng in cc;
    other =
        λ t s hs e. let k = was_side n t s hs in (g.core.sides x n hx).other t k.old k.was (ap (λ (y : TrunkSide). y.peer) (sym k.now) ∙ e);
    mine = λ t s hs. let k = was_side n t s hs in again t s k ((g.core.sides x n hx).mine t k.old k.was);
  }
    where
      again : (t : TrunkId) (s : TrunkSide) (k : Cleared n t s) → (t.dialer ≡ n.mint.name) ⊎ (t.dialer ≡ k.old.peer)
          → (t.dialer ≡ n.mint.name) ⊎ (t.dialer ≡ s.peer)
      again t s k (inl e) = inl e
      again t s k (inr e) = inr (e ∙ ap (λ (y : TrunkSide). y.peer) (sym k.now))

  still3 : (t : TrunkId) (y : Name) → Met w.nodes t y → Met (set_node w.nodes x nc) t y
  still3 t y u = by_name _ x t.dialer
      (λ e.
      let same : n ≡ u.dialer = same_Some n u.dialer (sym hx ∙ ap (node_of w.nodes) e ∙ u.at) in
      record {
        dialer = nc;
        at = ap (node_of (set_node w.nodes x nc)) (sym e) ∙ here3;
        side = as_state u.side Gone;
        there = gone_sides n t ∙ ap gone_side (ap (λ v. side_at v t) same ∙ u.there);
        peer = u.peer;
      })
      (λ d. record { dialer = u.dialer; at = there3 t.dialer d ∙ u.at; side = u.side; there = u.there; peer = u.peer })

  not_joined3 : (t : TrunkId) (s : TrunkSide) → side_at nc t ≡ Some s → (joined s.state ≡ false) × (is_up s.state ≡ false)
  not_joined3 t s h =
      let k = was_side n t s h in (ap (λ (y : TrunkSide). joined y.state) k.now, ap (λ (y : TrunkSide). is_up y.state) k.now)

  core3 : WorldKept (record { names = w.names; nodes = set_node w.nodes x nc; lists = w.lists })
  core3 = record {
    nodes = λ y a h. by_name _ x y (λ e. subst (λ v. NodeKept v) (is_nc y a e h) nc_kept) (λ d. g.core.nodes y a (sym (there3 y d) ∙ h));
    sides = λ y a h. by_name _ x y (λ e. subst (λ v. SidesKept v) (is_nc y a e h) nc_sides) (λ d. g.core.sides y a (sym (there3 y d) ∙ h));
    met = λ y a t s h f d. by_name _ x y
        (λ e. let k = was_side n t s (ap (λ v. side_at v t) (is_nc y a e h) ∙ f) in
        still3 t y (subst (λ z. Met w.nodes t z) e (g.core.met x n t k.old hx k.was (λ i. d (i ∙ e)))))
        (λ e. still3 t y (g.core.met y a t s (sym (there3 y e) ∙ h) f d));
    trunks = λ y z a d t s v ha hd fa fd sz vy us jv p q py qz. by_name _ x y
        (λ e. let k = not_joined3 t s (ap (λ m. side_at m t) (is_nc y a e ha) ∙ fa) in let i : true ≡ false = sym us ∙ k.1 in cc_kept i)
        (λ dy. by_name _ x z
        (λ e. let k = not_joined3 t v (ap (λ m. side_at m t) (is_nc z d e hd) ∙ fd) in let i : true ≡ false = sym jv ∙ k.0 in cc_kept i)
        (λ dz. g.core.trunks y z a d t s v (sym (there3 y dy) ∙ ha) (sym (there3 z dz) ∙ hd) fa fd sz vy us jv p q py qz));
  }
    where
      cc_kept : {P : Type 0} → true ≡ false → P
      cc_kept i = absurd (let z : true ≡ false = i in cc)

  row_d : (v : State) (o : Option TrunkSide) (l m : List Item) → Row v o l m → Row Gone o l m
  row_d v o l m r = record { before = λ h. let k = r.before h in (refl, k.1, k.2, k.3); early = λ h. cc; waits = r.waits }

  row_a : (v : State) (o : Option TrunkSide) (l m : List Item) → Row v o l m → Row v (gone_side o) l m
  row_a v None l m r = r
  row_a v (Some s) l m r = record { before = λ h. cc; early = λ h. let k = r.early h in (refl, k.1, k.2); waits = λ h. cc }

  good_cleared : Good (record { names = w.names; nodes = set_node w.nodes x (cleared n c b sp rf ul lc); lists = w.lists })
  good_cleared = record {
    core = core3;
    home = λ y a h. by_name _ x y
        (λ e. subst (λ v. HomeKept v) (is_nc y a e h) (record {
          local = lo;
          pairs = pr;
          roles = λ t s f. let k = was_side n t s f in
              ap (λ (z : TrunkSide). role_state (same_name t.dialer n.mint.name) z.state) k.now
              ∙ role_gone (same_name t.dialer n.mint.name);
          counts = λ t s f i. let k = was_side n t s f in (g.home x n hx).counts t k.old k.was i;
        }))
        (λ d. g.home y a (sym (there3 y d) ∙ h));
    table = λ t d a s hd fs ha. by_name _ x t.dialer
        (λ e.
        let k = was_side n t s (ap (λ m. side_at m t) (is_nc t.dialer d e hd) ∙ fs) in
        let ax : x ≡ s.peer → ⊥ =
        λ i. (g.core.sides x n hx).other t k.old k.was (ap (λ (z : TrunkSide). z.peer) (sym k.now) ∙ sym i ∙ sym nz) in
        subst (λ (z : TrunkSide). Row z.state (side_at a t) (list_to w.lists t t.dialer) (list_to w.lists t z.peer)) (sym k.now)
        (row_d k.old.state (side_at a t) (list_to w.lists t t.dialer) (list_to w.lists t k.old.peer)
        (g.table t n a k.old (ap (node_of w.nodes) (sym e) ∙ hx) k.was
        (ap (λ (z : TrunkSide). node_of w.nodes z.peer) (sym k.now) ∙ sym (there3 s.peer ax) ∙ ha))))
        (λ dd. by_name _ x s.peer
        (λ e. subst (λ m. Row s.state (side_at m t) (list_to w.lists t t.dialer) (list_to w.lists t s.peer)) (is_nc s.peer a e ha)
        (subst (λ o. Row s.state o (list_to w.lists t t.dialer) (list_to w.lists t s.peer)) (sym (gone_sides n t))
        (row_a s.state (side_at n t) (list_to w.lists t t.dialer) (list_to w.lists t s.peer)
        (g.table t d n s (sym (there3 t.dialer dd) ∙ hd) fs (ap (node_of w.nodes) (sym e) ∙ hx)))))
        (λ da. g.table t d a s (sym (there3 t.dialer dd) ∙ hd) fs (sym (there3 s.peer da) ∙ ha)));
    posted = λ t z h. still_p t z (g.posted t z h);
    single = single_kept w.nodes w.lists (set_node w.nodes x nc) w.lists core3.sides (λ y z t o ho l. inl (likely3 y z t l)) g.single;
  }
    where
      likely3 : (y z : Name) (t : TrunkId) → Likely (set_node w.nodes x nc) w.lists y t z → Likely w.nodes w.lists y t z
      likely3 y z t l = by_name _ x y
          (λ e.
          let k = was_side n t l.side (ap (λ m. side_at m t) (is_nc y l.node e l.at) ∙ l.there) in
          let z : false ≡ true =
          ap (λ (v : TrunkSide). may_be_up v.state (list_to w.lists t y)) (sym k.now) ∙ l.may in
          absurd (let f : true ≡ false = sym z in cc))
          (λ d. record { node = l.node; at = sym (there3 y d) ∙ l.at; side = l.side; there = l.there; peer = l.peer; may = l.may })

      still_p : (t : TrunkId) (z : Name) → Posted w.nodes t z → Posted (set_node w.nodes x nc) t z
      still_p t z k = by_name _ x t.dialer
          (λ e.
          let same : k.1 ≡ n = same_Some k.1 n (sym k.2 ∙ ap (node_of w.nodes) (sym e) ∙ hx) in (
            as_state k.0 Gone,
            nc,
            ap (node_of (set_node w.nodes x nc)) (sym e) ∙ here3,
            gone_sides n t ∙ ap gone_side (ap (λ v. side_at v t) (sym same) ∙ k.3),
            k.4,
          ))
          (λ d. (k.0, k.1, there3 t.dialer d ∙ k.2, k.3, k.4))

-- a list that is between spawned processes has nothing of another
strange : (f : Pid → Bool) (p q : Pid) (l : List Item) → f p ≡ true → Homely f l → (news p q l ≡ []) × (news q p l ≡ [])
strange f p q [] h k = (refl, refl)
strange f p q (x ∷ xs) h k =
    let r = strange f p q xs h k.1 in
    let v = one x k.0 in
    (ap (λ l. l ++ news p q xs) v.0 ∙ r.0, ap (λ l. l ++ news q p xs) v.1 ∙ r.1)
  where
    miss : (a b : Pid) → f a ≡ false → f b ≡ false → (s : LinkNews) (pay : Bool) → (news_in p q (Signalled (telling a b s) pay) ≡ [])
        × (news_in q p (Signalled (telling a b s) pay) ≡ [])
    miss a b fa fb s pay = (
      by_test _ (same_pid a p && same_pid b q)
          (λ i. let c : true ≡ false = sym h ∙ ap f (sym (same_pid_true a p (and_parts (same_pid a p) (same_pid b q) i).0)) ∙ fa in
          absurd (let d : true ≡ false = c in cc))
          (λ i. telling_news a b p q s pay ∙ ap (λ t. cond t (s ∷ []) []) i),
      by_test _ (same_pid a q && same_pid b p)
          (λ i. let c : true ≡ false = sym h ∙ ap f (sym (same_pid_true b p (and_parts (same_pid a q) (same_pid b p) i).1)) ∙ fb in
          absurd (let d : true ≡ false = c in cc))
          (λ i. telling_news a b q p s pay ∙ ap (λ t. cond t (s ∷ []) []) i),
    )

    one : (x : Item) → HomeItem f x → (news_in p q x ≡ []) × (news_in q p x ≡ [])
    one x m = pick (kind x)
      where
        pick : ((p q : Pid) → news_in p q x ≡ [])
            ⊎ ((q : Pid) × (p : Pid) × (s : LinkNews) × (pay : Bool) × (x ≡ Signalled (telling q p s) pay))
            → (news_in p q x ≡ []) × (news_in q p x ≡ [])
        pick (inl n) = (n p q, n q p)
        pick (inr e) =
            let v = home_saying f e.0 e.1 e.2 e.3 (subst (HomeItem f) e.4 m) in
            let r = miss e.0 e.1 v.0 v.1 e.2 e.3 in
            (ap (news_in p q) e.4 ∙ r.0, ap (news_in q p) e.4 ∙ r.1)

module _ (w : World) (x : Name) (n : Node) (hx : node_of w.nodes x ≡ Some n) (g : Good w) where
  no_end : (p q : Pid) → end_of (stopped n) p q ≡ End.None
  no_end p q = ap end_in (fm.get-empty pair_cmp (p, q))

  stopped_over : (p : Pid) → is_stranger n p ≡ false → over (stopped n) p ≡ true
  stopped_over p h = ap (λ v. not v && not (is_stranger n p)) (ap is_living_life (fm.get-empty pid_cmp p)) ∙ ap not h

  stopped_pairs : HomePairs (stopped n)
  stopped_pairs p q hp hq d =
      let k = g.home x n hx in
      let a = side_of (stopped n) p q (news p q n.local) in
      let b = side_of (stopped n) q p (news q p n.local) in
      by_test _ (is_stranger n p)
      (λ i. let v = strange (λ z. is_stranger n z) p q n.local i k.local in blank a b (no_end p q) (no_end q p) v.0 v.1)
      (λ i. by_test _ (is_stranger n q)
      (λ j. let v = strange (λ z. is_stranger n z) q p n.local j k.local in blank a b (no_end p q) (no_end q p) v.1 v.0)
      (λ j.
      subst (λ c. Kept c b) (side_path
      (record { end = End.None; gone = true; drawn = n.mint.unlink_ids; sent = news p q n.local }) a (sym (no_end p q))
      (sym (stopped_over p i)) refl refl)
      (subst (λ c. Kept
      (record { end = End.None; gone = true; drawn = n.mint.unlink_ids; sent = news p q n.local }) c) (side_path
      (record { end = End.None; gone = true; drawn = n.mint.unlink_ids; sent = news q p n.local }) b (sym (no_end q p))
      (sym (stopped_over q j)) refl refl)
      (keeps_stop (side_of n p q (news p q n.local)) (side_of n q p (news q p n.local)) (k.pairs p q hp hq d)))))

  pub good_stopped : Good (record { names = w.names; nodes = set_node w.nodes x (stopped n); lists = w.lists })
  good_stopped = good_cleared w x n hx n.mint.creation false n.mint.pids n.mint.references n.mint.unlink_ids n.local g
      ((g.home x n hx).local) stopped_pairs

  pub good_started : Good (record { names = w.names; nodes = set_node w.nodes x (started n); lists = w.lists })
  good_started = good_cleared w x n hx (n.mint.creation + 1) true 0 0 0 [] g tt
      (λ p q hp hq d. blank (side_of (started n) p q []) (side_of (started n) q p [])
      (ap end_in (fm.get-empty pair_cmp (p, q))) (ap end_in (fm.get-empty pair_cmp (q, p))) refl refl)
