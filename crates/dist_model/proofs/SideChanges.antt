-- A side of one node changes.
use Rattle.std.proofs.Common.{◌≡◌, Bool, true, false, cond, [], refl, sym, ap, ◌∙◌, subst, ◌&&◌, ◌||◌, Option, Some, None, ◌⊎◌, inl, inr}
use Rattle.std.proofs.lemmas.Option.{same_Some}
use Rattle.std.proofs.lemmas.Bool.{or_left, or_right}
use Rattle.std.specs.Option.{is_some}
use Rattle.std.specs.FinMap as fm
use Rattle.dist_model.proofs.Calls.{by_name, by_test, by_trunk}
use Rattle.dist_model.proofs.Keys.{other_trunk, same_name_true, same_trunk, same_trunk_is, same_trunk_refl, same_trunk_true, trunk_total}
use Rattle.dist_model.proofs.Posts.{NodeKept, held}
use Rattle.dist_model.proofs.Pairs.{Met, TrunkPairs, WorldKept, up_joined}
use Rattle.dist_model.proofs.Routes.{node_of_name, node_of_set_other, node_of_set_same, side_where_found, side_where_none}
use Rattle.dist_model.proofs.Sides.{Single, SidesKept, asks, beside, holds, holds_kinds}
use Rattle.dist_model.proofs.Sides.{joined, not_held, side_at, unheld_absent, beside_neither}
use Rattle.dist_model.proofs.Views.{side_of}
use Rattle.dist_model.specs.Items.{news}
use Rattle.dist_model.specs.Names.{Name, same_name}
use Rattle.dist_model.specs.Node.{Node, end_of, side_where}
use Rattle.dist_model.specs.Sides.{State, TrunkSide, is_gone, is_up}
use Rattle.dist_model.specs.World.{World, list_to, node_of, set_node}
use Rattle.erl_names.specs.declared.trunk.TrunkId.{TrunkId}
use Rattle.erl_term.specs.declared.term.Pid.{Pid}
use Rattle.link_core.proofs.Kept.{Kept, blank, kept_swap}
use Rattle.link_core.specs.declared.end.End.{End}

-- one side of a node gets a new state, or is new
abbrev pub with_side_at : Node → TrunkId → TrunkSide → Node
with_side_at n t s = record n { sides = fm.insert n.sides t s }

pub side_after : (n : Node) (t0 : TrunkId) (s : TrunkSide) (t : TrunkId)
    → side_at (with_side_at n t0 s) t ≡ cond (same_trunk t t0) (Some s) (side_at n t)
side_after n t0 s t = fm.get-insert trunk_total n.sides t0 s t

pub side_after_same : (n : Node) (t0 : TrunkId) (s : TrunkSide) → side_at (with_side_at n t0 s) t0 ≡ Some s
side_after_same n t0 s = side_after n t0 s t0 ∙ ap (λ b. cond b (Some s) (side_at n t0)) (same_trunk_refl t0)

cond_false : {A : Type 0} (b : Bool) (x y : A) → b ≡ false → cond b x y ≡ y
cond_false true x y h = cc
cond_false false x y h = refl

pub side_after_other : (n : Node) (t0 : TrunkId) (s : TrunkSide) (t : TrunkId) → (t ≡ t0 → ⊥)
    → side_at (with_side_at n t0 s) t ≡ side_at n t
side_after_other n t0 s t d = side_after n t0 s t ∙ cond_false (same_trunk t t0) (Some s) (side_at n t) (other_trunk t t0 d)

-- what a new state of a side has to meet at its own node
pub record Fits (n : Node) (t0 : TrunkId) (s : TrunkSide) : Type 0 where
  pub stranger : s.peer ≡ n.mint.name → ⊥
  pub role : (t0.dialer ≡ n.mint.name) ⊎ (t0.dialer ≡ s.peer)
  pub peer_stays : (v : TrunkSide) → side_at n t0 ≡ Some v → v.peer ≡ s.peer
  pub room : (u : TrunkId) (v : TrunkSide) → side_at n u ≡ Some v → v.peer ≡ s.peer → (u ≡ t0 → ⊥) → is_gone s.state ≡ false
      → is_gone v.state ≡ false → beside s.state v.state ≡ true
  -- no records are left where it stops to hold them
  pub empty : (v : TrunkSide) → side_at n t0 ≡ Some v → holds v.state ≡ true → holds s.state ≡ false → (p q : Pid)
      → q.node ≡ s.peer → end_of n p q ≡ End.None

beside_turned : (a b : State) → beside a b ≡ true → beside b a ≡ true
beside_turned a b h = go (holds a) (asks b) (asks a) (holds b) h
  where
    go : (p q r s : Bool) → ((p && q) || (r && s)) ≡ true → ((s && r) || (q && p)) ≡ true
    go true true true true h = refl
    go true true false true h = refl
    go true false true false h = cc
    go true false false s h = cc
    go false q true false h = cc
    go false q false s h = cc
    go _ _ _ _ h = refl

pub if_trunk : (t0 : TrunkId) (P : Type 0) (t : TrunkId) → (t ≡ t0 → P) → ((t ≡ t0 → ⊥) → P) → P
if_trunk t0 P t a b = by_test P (same_trunk t t0) (λ h. a (same_trunk_true t t0 h)) (λ h. b
    (λ e. let c : true ≡ false = sym (same_trunk_is t t0 e) ∙ h in cc))

same_at : (n : Node) (t0 : TrunkId) (s : TrunkSide) (t : TrunkId) (v : TrunkSide) → t ≡ t0 → side_at (with_side_at n t0 s) t ≡ Some v
    → s ≡ v
same_at n t0 s t v e h = same_Some s v (sym (side_after_same n t0 s) ∙ ap (side_at (with_side_at n t0 s)) (sym e) ∙ h)

-- a side that stands beside the others towards its peer
pub single_after : (n : Node) (t0 : TrunkId) (s : TrunkSide) → Single n.sides
    → ((u : TrunkId) (v : TrunkSide) → side_at n u ≡ Some v → v.peer ≡ s.peer → (u ≡ t0 → ⊥) → is_gone s.state ≡ false
    → is_gone v.state ≡ false → beside s.state v.state ≡ true)
    → Single ((with_side_at n t0 s).sides)
single_after n t0 s k room t u a b ha hb e ga gb = if_trunk t0 _ t
    (λ te. if_trunk t0 _ u (λ ue. inl (te ∙ sym ue))
    (λ ud.
    let sa : s ≡ a = same_at n t0 s t a te ha in
    inr (subst (λ (z : TrunkSide). beside z.state b.state ≡ true) sa (room u b (sym (side_after_other n t0 s u ud) ∙ hb) (sym e
    ∙ ap (λ (z : TrunkSide). z.peer) (sym sa)) ud (ap (λ (z : TrunkSide). is_gone z.state) sa ∙ ga) gb))))
    (λ td. if_trunk t0 _ u
    (λ ue.
    let sb : s ≡ b = same_at n t0 s u b ue hb in
    inr (beside_turned b.state a.state (subst (λ (z : TrunkSide). beside z.state a.state ≡ true) sb (room t a (sym
    (side_after_other n t0 s t td) ∙ ha) (e ∙ ap (λ (z : TrunkSide). z.peer) (sym sb)) td (ap
    (λ (z : TrunkSide). is_gone z.state) sb ∙ gb) ga))))
    (λ ud. k t u a b (sym (side_after_other n t0 s t td) ∙ ha) (sym (side_after_other n t0 s u ud) ∙ hb) e ga gb))

pub sides_after : (n : Node) (t0 : TrunkId) (s : TrunkSide) → SidesKept n → Fits n t0 s → SidesKept (with_side_at n t0 s)
sides_after n t0 s k f = record { one = single_after n t0 s k.one f.room; other = other; mine = mine }
  where
    other : (t : TrunkId) (a : TrunkSide) → side_at (with_side_at n t0 s) t ≡ Some a → a.peer ≡ n.mint.name → ⊥
    other t a ha e = if_trunk t0 _ t (λ te. f.stranger (ap (λ (z : TrunkSide). z.peer) (same_at n t0 s t a te ha)
        ∙ e)) (λ td. k.other t a (sym (side_after_other n t0 s t td) ∙ ha) e)

    role_of : (a : TrunkSide) → s ≡ a → (t0.dialer ≡ n.mint.name) ⊎ (t0.dialer ≡ s.peer) → (t0.dialer ≡ n.mint.name) ⊎ (t0.dialer ≡ a.peer)
    role_of a e (inl h) = inl h
    role_of a e (inr h) = inr (h ∙ ap (λ (z : TrunkSide). z.peer) e)

    mine : (t : TrunkId) (a : TrunkSide) → side_at (with_side_at n t0 s) t ≡ Some a → (t.dialer ≡ n.mint.name) ⊎ (t.dialer ≡ a.peer)
    mine t a ha = if_trunk t0 _ t
        (λ te. subst (λ (z : TrunkId). (z.dialer ≡ n.mint.name) ⊎ (z.dialer ≡ a.peer)) (sym te) (role_of a
        (same_at n t0 s t a te ha) f.role))
        (λ td. k.mine t a (sym (side_after_other n t0 s t td) ∙ ha))

-- a node that held y still does, but for the side itself
pub held_is : (n : Node) (t : TrunkId) (v : TrunkSide) → side_at n t ≡ Some v → holds v.state ≡ true → held n v.peer ≡ true
held_is n t v h u = go (side_where holds v.peer (fm.entries n.sides)) refl
  where
    go : (o : Option (TrunkId × TrunkSide)) → side_where holds v.peer (fm.entries n.sides) ≡ o → held n v.peer ≡ true
    go None e =
        let c : true ≡ false = sym u ∙ side_where_none holds v.peer (fm.entries n.sides) t v e (sym (fm.get-entries n.sides t) ∙ h) refl in
        cc
    go (Some e) i = or_right (same_name v.peer n.mint.name) _ (ap is_some i)

pub record Holder (n : Node) (y : Name) : Type 0 where
  pub trunk : TrunkId
  pub side : TrunkSide
  pub at : side_at n trunk ≡ Some side
  pub peer : side.peer ≡ y
  pub holding : holds side.state ≡ true

pub held_by : (n : Node) (y : Name) → held n y ≡ true → (same_name y n.mint.name ≡ true) ⊎ Holder n y
held_by n y h = go (same_name y n.mint.name) refl (side_where holds y (fm.entries n.sides)) refl
  where
    or_rest : (a b : Bool) → a ≡ false → (a || b) ≡ true → b ≡ true
    or_rest true b e h = cc
    or_rest false b e h = h

    go : (b : Bool) → same_name y n.mint.name ≡ b → (o : Option (TrunkId × TrunkSide))
        → side_where holds y (fm.entries n.sides) ≡ o → (same_name y n.mint.name ≡ true) ⊎ Holder n y
    go true e o i = inl e
    go false e None i = let c : true ≡ false = sym (or_rest (same_name y n.mint.name) _ e h) ∙ ap is_some i in cc
    go false e (Some d) i =
        let f = side_where_found holds y (fm.entries n.sides) d (fm.entries_sorted n.sides) i in
        inr (record { trunk = d.0; side = d.1; at = fm.get-entries n.sides d.0 ∙ f.there; peer = f.peer; holding = f.passes })

pub nodes_after : (n : Node) (t0 : TrunkId) (s : TrunkSide) → NodeKept n → Fits n t0 s → NodeKept (with_side_at n t0 s)
nodes_after n t0 s k f = record {
  born = k.born;
  rooted = λ p q e. let r = k.rooted p q e in (r.0, still p q e (held_by n q.node r.1), r.2);
}
  where
    moved_to : (q : Pid) (y : Name) → y ≡ q.node → held (with_side_at n t0 s) y ≡ true → held (with_side_at n t0 s) q.node ≡ true
    moved_to q y e h = ap (held (with_side_at n t0 s)) (sym e) ∙ h

    still : (p q : Pid) → (end_of n p q ≡ End.None → ⊥) → (same_name q.node n.mint.name ≡ true) ⊎ Holder n q.node
        → held (with_side_at n t0 s) q.node ≡ true
    still p q e (inl h) = or_left (same_name q.node n.mint.name) _ h
    still p q e (inr g) = by_test _ (same_trunk g.trunk t0)
        (λ i.
        let te : g.trunk ≡ t0 = same_trunk_true g.trunk t0 i in
        let v0 : side_at n t0 ≡ Some g.side = ap (side_at n) (sym te) ∙ g.at in
        let pe : g.side.peer ≡ s.peer = f.peer_stays g.side v0 in
        by_test _ (holds s.state)
        (λ hs. moved_to q s.peer (sym pe ∙ g.peer) (held_is (with_side_at n t0 s) t0 s (side_after_same n t0 s) hs))
        (λ hs. absurd (e (f.empty g.side v0 g.holding hs p q (sym g.peer ∙ pe)))))
        (λ i.
        let td : g.trunk ≡ t0 → ⊥ = λ j. let c : true ≡ false = sym (same_trunk_is g.trunk t0 j) ∙ i in cc in
        moved_to q g.side.peer g.peer (held_is (with_side_at n t0 s) g.trunk g.side (side_after_other n t0 s g.trunk td ∙ g.at) g.holding))

module _ (w : World) (x : Name) (n : Node) (t0 : TrunkId) (s0 : TrunkSide) (hx : node_of w.nodes x ≡ Some n) (f : Fits n t0 s0)
    (met0 : (t0.dialer ≡ x → ⊥) → Met w.nodes t0 x)
    -- what is claimed of the pairs on this trunk
    (claim : (z : Name) (b : Node) (v : TrunkSide) → node_of w.nodes z ≡ Some b → side_at b t0 ≡ Some v → s0.peer ≡ z → v.peer ≡ x
    → ((is_up s0.state ≡ true) × (joined v.state ≡ true)) ⊎ ((joined s0.state ≡ true) × (is_up v.state ≡ true)) → (p q : Pid)
    → p.node ≡ x → q.node ≡ z
    → Kept (side_of n p q (news p q (list_to w.lists t0 z))) (side_of b q p (news q p (list_to w.lists t0 x))))
    (k : WorldKept w) where
  n1 : Node
  n1 = with_side_at n t0 s0

  nx : n.mint.name ≡ x
  nx = node_of_name w.nodes x n hx

  here : node_of (set_node w.nodes x n1) x ≡ Some n1
  unfolding n1
  here = node_of_set_same w.nodes x n (with_side_at n t0 s0) hx nx

  there : (y : Name) → (x ≡ y → ⊥) → node_of (set_node w.nodes x n1) y ≡ node_of w.nodes y
  unfolding n1
  there y d = node_of_set_other w.nodes x y (with_side_at n t0 s0) nx d

  own : (y : Name) (a : Node) → x ≡ y → node_of (set_node w.nodes x n1) y ≡ Some a → n1 ≡ a
  own y a e h = same_Some n1 a (sym here ∙ ap (node_of (set_node w.nodes x n1)) e ∙ h)

  new_nodes : (y : Name) (a : Node) → node_of (set_node w.nodes x n1) y ≡ Some a → NodeKept a
  unfolding n1
  new_nodes y a h =
      by_name (NodeKept a) x y (λ e. subst (λ v. NodeKept v) (own y a e h) (nodes_after n t0 s0 (k.nodes x n hx) f))
      (λ d. k.nodes y a (sym (there y d) ∙ h))

  new_sides : (y : Name) (a : Node) → node_of (set_node w.nodes x n1) y ≡ Some a → SidesKept a
  unfolding n1
  new_sides y a h =
      by_name (SidesKept a) x y (λ e. subst (λ v. SidesKept v) (own y a e h) (sides_after n t0 s0 (k.sides x n hx) f))
      (λ d. k.sides y a (sym (there y d) ∙ h))

  at_same : side_at n1 t0 ≡ Some s0
  unfolding n1
  at_same = side_after_same n t0 s0

  at_other : (t : TrunkId) → (t ≡ t0 → ⊥) → side_at n1 t ≡ side_at n t
  unfolding n1
  at_other t d = side_after_other n t0 s0 t d

  met_still : (t : TrunkId) (y : Name) → Met w.nodes t y → Met (set_node w.nodes x n1) t y
  met_still t y u = by_name (Met (set_node w.nodes x n1) t y) x t.dialer
      (λ e.
      let same : n ≡ u.dialer = same_Some n u.dialer (sym hx ∙ ap (node_of w.nodes) e ∙ u.at) in
      let old : side_at n t ≡ Some u.side = ap (λ v. side_at v t) same ∙ u.there in
      let at : node_of (set_node w.nodes x n1) t.dialer ≡ Some n1 = ap (node_of (set_node w.nodes x n1)) (sym e) ∙ here in
      by_trunk (Met (set_node w.nodes x n1) t y) t t0
      (λ te. record {
        dialer = n1;
        at = at;
        side = s0;
        there = ap (side_at n1) te ∙ at_same;
        peer = sym (f.peer_stays u.side (ap (side_at n) (sym te) ∙ old)) ∙ u.peer;
      })
      (λ td. record { dialer = n1; at = at; side = u.side; there = at_other t td ∙ old; peer = u.peer }))
      (λ d. record { dialer = u.dialer; at = there t.dialer d ∙ u.at; side = u.side; there = u.there; peer = u.peer })

  new_met : (y : Name) (a : Node) (t : TrunkId) (s : TrunkSide) → node_of (set_node w.nodes x n1) y ≡ Some a
      → side_at a t ≡ Some s → (t.dialer ≡ y → ⊥) → Met (set_node w.nodes x n1) t y
  new_met y a t s h g d = by_name (Met (set_node w.nodes x n1) t y) x y
      (λ e. by_trunk (Met (set_node w.nodes x n1) t y) t t0
      (λ te. met_still t y (subst (λ z. Met w.nodes t z) e
      (subst (λ z. Met w.nodes z x) (sym te) (met0 (λ i. d (ap (λ (z : TrunkId). z.dialer) te ∙ i ∙ e))))))
      (λ td. met_still t y (subst (λ z. Met w.nodes t z) e
      (k.met x n t s hx (sym (at_other t td) ∙ ap (λ v. side_at v t) (own y a e h) ∙ g) (λ i. d (i ∙ e))))))
      (λ e. met_still t y (k.met y a t s (sym (there y e) ∙ h) g d))

  -- a pair of which one process is of x
  new_at_x : (z : Name) (b : Node) (t : TrunkId) (s v : TrunkSide) → node_of w.nodes z ≡ Some b → side_at n1 t ≡ Some s
      → side_at b t ≡ Some v → s.peer ≡ z → v.peer ≡ x
      → ((is_up s.state ≡ true) × (joined v.state ≡ true)) ⊎ ((joined s.state ≡ true) × (is_up v.state ≡ true)) → (p q : Pid)
      → p.node ≡ x → q.node ≡ z
      → Kept (side_of n p q (news p q (list_to w.lists t z))) (side_of b q p (news q p (list_to w.lists t x)))
  new_at_x z b t s v hb fs fv sz vx j p q pn qn = by_trunk _ t t0
      (λ te.
      let se : s0 ≡ s = same_Some s0 s (sym at_same ∙ ap (side_at n1) (sym te) ∙ fs) in
      subst (λ u. Kept (side_of n p q (news p q (list_to w.lists u z))) (side_of b q p (news q p (list_to w.lists u x)))) (sym te)
      (claim z b v hb (ap (side_at b) (sym te) ∙ fv) (ap (λ (u : TrunkSide). u.peer) se ∙ sz) vx (states s se j) p q pn qn))
      (λ td. old td j)
    where
      states : (s : TrunkSide) → s0 ≡ s → ((is_up s.state ≡ true) × (joined v.state ≡ true))
          ⊎ ((joined s.state ≡ true) × (is_up v.state ≡ true))
          → ((is_up s0.state ≡ true) × (joined v.state ≡ true)) ⊎ ((joined s0.state ≡ true) × (is_up v.state ≡ true))
      states s e (inl h) = inl (ap (λ (u : TrunkSide). is_up u.state) e ∙ h.0, h.1)
      states s e (inr h) = inr (ap (λ (u : TrunkSide). joined u.state) e ∙ h.0, h.1)

      old : (t ≡ t0 → ⊥) → ((is_up s.state ≡ true) × (joined v.state ≡ true)) ⊎ ((joined s.state ≡ true) × (is_up v.state ≡ true))
          → Kept (side_of n p q (news p q (list_to w.lists t z))) (side_of b q p (news q p (list_to w.lists t x)))
      old td (inl h) = k.trunks x z n b t s v hx hb (sym (at_other t td) ∙ fs) fv sz vx h.0 h.1 p q pn qn
      old td (inr h) = kept_swap _ _ (k.trunks z x b n t v s hb hx fv (sym (at_other t td) ∙ fs) vx sz h.1 h.0 q p qn pn)

  new_trunks : TrunkPairs (set_node w.nodes x n1) w.lists
  unfolding n1
  new_trunks y z a b t s v ha hb fa fb sz vy us jv p q py qz = by_name _ x y
      (λ e.
      let na : n1 ≡ a = own y a e ha in
      let fs : side_at n1 t ≡ Some s = ap (λ m. side_at m t) na ∙ fa in
      let dz : x ≡ z → ⊥ = λ i. (new_sides x n1 here).other t s fs (sz ∙ sym i ∙ sym nx) in
      subst (λ m. Kept (side_of m p q (news p q (list_to w.lists t z))) (side_of b q p (news q p (list_to w.lists t y)))) na
      (subst (λ c. Kept (side_of n p q (news p q (list_to w.lists t z))) (side_of b q p (news q p (list_to w.lists t c)))) e
      (new_at_x z b t s v (sym (there z dz) ∙ hb) fs fb sz (vy ∙ sym e) (inl (us, jv)) p q (py ∙ sym e) qz)))
      (λ dy. by_name _ x z
      (λ e.
      let nb : n1 ≡ b = own z b e hb in
      let fs : side_at n1 t ≡ Some v = ap (λ m. side_at m t) nb ∙ fb in
      kept_swap _ _ (subst (λ m. Kept (side_of m q p (news q p (list_to w.lists t y))) (side_of a p q (news p q (list_to w.lists t z)))) nb
      (subst (λ c. Kept (side_of n q p (news q p (list_to w.lists t y))) (side_of a p q (news p q (list_to w.lists t c)))) e
      (new_at_x y a t v s (sym (there y dy) ∙ ha) fs fa vy (sz ∙ sym e) (inr (jv, us)) q p (qz ∙ sym e) py))))
      (λ dz. k.trunks y z a b t s v (sym (there y dy) ∙ ha) (sym (there z dz) ∙ hb) fa fb sz vy us jv p q py qz))

  pub resided : WorldKept (record { names = w.names; nodes = set_node w.nodes x (with_side_at n t0 s0); lists = w.lists })
  unfolding n1
  resided = record { nodes = new_nodes; sides = new_sides; met = new_met; trunks = new_trunks }

-- a side that stops taking part, and holds no records any more or goes on to hold them
pub drops : (w : World) (x : Name) (n : Node) (t : TrunkId) (v s : TrunkSide) → node_of w.nodes x ≡ Some n
    → side_at n t ≡ Some v → v.peer ≡ s.peer → joined s.state ≡ false
    → Fits n t s → WorldKept w → WorldKept (record { names = w.names; nodes = set_node w.nodes x (with_side_at n t s); lists = w.lists })
drops w x n t v s hx hv e j f k = resided w x n t s hx f (λ d. k.met x n t v hx hv d)
    (λ z b u hb fb sz ux c p q pn qn. absurd (none u c)) k
  where
    none : (u : TrunkSide) → ((is_up s.state ≡ true) × (joined u.state ≡ true)) ⊎ ((joined s.state ≡ true) × (is_up u.state ≡ true)) → ⊥
    none u (inl h) = let c : true ≡ false = sym (up_joined s.state h.0) ∙ j in cc
    none u (inr h) = let c : true ≡ false = sym h.0 ∙ j in cc

-- the dialer's side that gets the acceptance is up
pub comes_up : (w : World) (x : Name) (n : Node) (t : TrunkId) (v s : TrunkSide) → node_of w.nodes x ≡ Some n
    → side_at n t ≡ Some v → v.peer ≡ s.peer → joined v.state ≡ true → is_up v.state ≡ false
    -- the acceptor's side is never a dialer's
    → ((z : Name) (b : Node) (u : TrunkSide) → node_of w.nodes z ≡ Some b → side_at b t ≡ Some u → v.peer ≡ z
    → joined u.state ≡ true → is_up u.state ≡ true)
    → Fits n t s → WorldKept w → WorldKept (record { names = w.names; nodes = set_node w.nodes x (with_side_at n t s); lists = w.lists })
comes_up w x n t v s hx hv e j nu acceptor f k = resided w x n t s hx f (λ d. k.met x n t v hx hv d)
    (λ z b u hb fb sz ux c p q pn qn. kept_swap _ _ (k.trunks z x b n t u v hb hx fb hv ux (e ∙ sz) (up z b u hb fb sz c) j q p qn pn)) k
  where
    up : (z : Name) (b : Node) (u : TrunkSide) → node_of w.nodes z ≡ Some b → side_at b t ≡ Some u → s.peer ≡ z
        → ((is_up s.state ≡ true) × (joined u.state ≡ true)) ⊎ ((joined s.state ≡ true) × (is_up u.state ≡ true))
        → is_up u.state ≡ true
    up z b u hb fb sz (inl h) = acceptor z b u hb fb (e ∙ sz) h.1
    up z b u hb fb sz (inr h) = h.1

-- a side that neither holds nor asks nor is gone is alone: the node holds nothing of the peer
pub alone : (n : Node) (t : TrunkId) (v : TrunkSide) → SidesKept n → side_at n t ≡ Some v → is_gone v.state ≡ false
    → holds v.state ≡ false → asks v.state ≡ false → held n v.peer ≡ false
alone n t v k h ng nh na = by_test _ (held n v.peer) (λ e. absurd (go (held_by n v.peer e))) (λ e. e)
  where
    pick : (g : Holder n v.peer) → (t ≡ g.trunk) ⊎ (beside v.state g.side.state ≡ true) → ⊥
    pick g (inl i) =
        let e : v ≡ g.side = same_Some v g.side (sym h ∙ ap (side_at n) i ∙ g.at) in
        let c : true ≡ false = sym g.holding ∙ ap (λ (z : TrunkSide). holds z.state) (sym e) ∙ nh in cc
    pick g (inr i) = beside_neither v.state g.side.state nh na i

    go : (same_name v.peer n.mint.name ≡ true) ⊎ Holder n v.peer → ⊥
    go (inl e) = k.other t v h (same_name_true v.peer n.mint.name e)
    go (inr g) = pick g (k.one t g.trunk v g.side h g.at (sym g.peer) ng (holds_kinds g.side.state g.holding).0)

-- the acceptor's side is up once the digest was right
pub accepts_up : (w : World) (x : Name) (n : Node) (t : TrunkId) (v s : TrunkSide) → node_of w.nodes x ≡ Some n
    → side_at n t ≡ Some v → v.peer ≡ s.peer
    → is_gone v.state ≡ false → holds v.state ≡ false → asks v.state ≡ false
    -- nothing about links was sent on this trunk, and the dialer isn't up
    → ((p q : Pid) → news p q (list_to w.lists t x) ≡ []) → ((p q : Pid) → news p q (list_to w.lists t s.peer) ≡ [])
    → ((z : Name) (b : Node) (u : TrunkSide) → node_of w.nodes z ≡ Some b → side_at b t ≡ Some u → v.peer ≡ z
    → joined u.state ≡ true → is_up u.state ≡ false)
    → Fits n t s → WorldKept w → WorldKept (record { names = w.names; nodes = set_node w.nodes x (with_side_at n t s); lists = w.lists })
accepts_up w x n t v s hx hv e ng nh na none_x none_p dialer f k = resided w x n t s hx f (λ d. k.met x n t v hx hv d)
    (λ z b u hb fb sz ux c p q pn qn.
    let j : joined u.state ≡ true = of_other u c in
    let a1 : end_of n p q ≡ End.None =
    unheld_absent n p q (k.nodes x n hx) (ap (held n) (qn ∙ sym sz ∙ sym e) ∙ alone n t v (k.sides x n hx) hv ng nh na) in
    let a2 : end_of b q p ≡ End.None =
    unheld_absent b q p (k.nodes z b hb)
    (ap (held b) (pn ∙ sym ux) ∙ not_held b t u (k.sides z b hb) fb j (dialer z b u hb fb (e ∙ sz) j)) in
    blank (side_of n p q (news p q (list_to w.lists t z))) (side_of b q p (news q p (list_to w.lists t x))) a1 a2
    (ap (λ c. news p q (list_to w.lists t c)) (sym sz) ∙ none_p p q) (none_x q p)) k
  where
    of_other : (u : TrunkSide) → ((is_up s.state ≡ true) × (joined u.state ≡ true))
        ⊎ ((joined s.state ≡ true) × (is_up u.state ≡ true)) → joined u.state ≡ true
    of_other u (inl h) = h.1
    of_other u (inr h) = up_joined u.state h.1

-- the dialer replies: the acceptor isn't up yet
pub replies_to : (w : World) (x : Name) (n : Node) (t : TrunkId) (v s : TrunkSide) → node_of w.nodes x ≡ Some n
    → side_at n t ≡ Some v → v.peer ≡ s.peer → is_up s.state ≡ false
    → ((z : Name) (b : Node) (u : TrunkSide) → node_of w.nodes z ≡ Some b → side_at b t ≡ Some u → v.peer ≡ z → is_up u.state ≡ false)
    → Fits n t s → WorldKept w → WorldKept (record { names = w.names; nodes = set_node w.nodes x (with_side_at n t s); lists = w.lists })
replies_to w x n t v s hx hv e nu dialer f k = resided w x n t s hx f (λ d. k.met x n t v hx hv d)
    (λ z b u hb fb sz ux c p q pn qn. absurd (none z b u hb fb sz c)) k
  where
    none : (z : Name) (b : Node) (u : TrunkSide) → node_of w.nodes z ≡ Some b → side_at b t ≡ Some u → s.peer ≡ z
        → ((is_up s.state ≡ true) × (joined u.state ≡ true)) ⊎ ((joined s.state ≡ true) × (is_up u.state ≡ true)) → ⊥
    none z b u hb fb sz (inl h) = let c : true ≡ false = sym h.0 ∙ nu in cc
    none z b u hb fb sz (inr h) = let c : true ≡ false = sym h.1 ∙ dialer z b u hb fb (e ∙ sz) in cc
