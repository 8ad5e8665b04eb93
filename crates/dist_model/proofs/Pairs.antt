-- What all nodes keep together.
use Rattle.std.proofs.Common.{◌≡◌, true, false, List, [], ◌++◌, refl, sym, ap, ◌∙◌, subst, Some, ◌⊎◌, inl, inr, append-nil}
use Rattle.std.proofs.lemmas.Option.{same_Some}
use Rattle.std.specs.FinMap as fm
use Rattle.dist_model.proofs.Envelopes.{outgoing}
use Rattle.dist_model.proofs.Calls.{by_name, by_test}
use Rattle.dist_model.proofs.Keys.{same_name_is, same_name_true}
use Rattle.dist_model.proofs.Posts.{AllRouted, NodeKept}
use Rattle.dist_model.proofs.Routes.{at_place, node_of_name, node_of_set_other, node_of_set_same}
use Rattle.dist_model.proofs.Sides.{Routed, SidesKept, at_place_none, joined, route_from, side_at, sides_kept}
use Rattle.dist_model.proofs.Views.{side_of}
use Rattle.dist_model.specs.Items.{Item, news}
use Rattle.dist_model.specs.Names.{Name, place_cmp, same_name}
use Rattle.dist_model.specs.Node.{Node, route_in}
use Rattle.dist_model.specs.Sides.{State, TrunkSide, Up, is_up}
use Rattle.dist_model.specs.Work.{Work}
use Rattle.dist_model.specs.World.{World, list_to, node_of, set_node}
use Rattle.erl_names.specs.declared.trunk.TrunkId.{TrunkId}
use Rattle.erl_term.specs.declared.term.Pid.{Pid}
use Rattle.link_core.proofs.Kept.{Kept, kept_swap}
use Rattle.std.specs.FinMap.{FinMap}

-- a trunk that isn't x's own: its dialer has it, towards x
pub record Met (ns : List Node) (t : TrunkId) (x : Name) : Type 0 where
  pub dialer : Node
  pub at : node_of ns t.dialer ≡ Some dialer
  pub side : TrunkSide
  pub there : side_at dialer t ≡ Some side
  pub peer : side.peer ≡ x

-- one trunk, up at x and up or about to be at y: each pair of their processes
abbrev pub TrunkPairs : List Node → FinMap place_cmp (List Item) → Type 0
TrunkPairs ns m =
    (x y : Name) (a b : Node) (t : TrunkId) (s v : TrunkSide) → node_of ns x ≡ Some a → node_of ns y ≡ Some b
    → side_at a t ≡ Some s → side_at b t ≡ Some v
    → s.peer ≡ y → v.peer ≡ x → is_up s.state ≡ true → joined v.state ≡ true → (p q : Pid) → p.node ≡ x → q.node ≡ y
    → Kept (side_of a p q (news p q (list_to m t y))) (side_of b q p (news q p (list_to m t x)))

pub record WorldKept (w : World) : Type 0 where
  pub nodes : (x : Name) (n : Node) → node_of w.nodes x ≡ Some n → NodeKept n
  pub sides : (x : Name) (n : Node) → node_of w.nodes x ≡ Some n → SidesKept n
  pub met : (x : Name) (n : Node) (t : TrunkId) (s : TrunkSide) → node_of w.nodes x ≡ Some n → side_at n t ≡ Some s
      → (t.dialer ≡ x → ⊥) → Met w.nodes t x
  pub trunks : TrunkPairs w.nodes w.lists

pub up_joined : (v : State) → is_up v ≡ true → joined v ≡ true
up_joined Up h = refl
up_joined _ h = cc

module _ (w : World) (x : Name) (n : Node) (o : Work) (m' : FinMap place_cmp (List Item)) (hx : node_of w.nodes x ≡ Some n)
    (sd : o.node.sides ≡ n.sides) (nm : o.node.mint.name ≡ n.mint.name) (ko : NodeKept o.node) (ro : AllRouted o.node.sides (outgoing o))
    (lists : (t : TrunkId) (y : Name) → (y ≡ x → ⊥) → list_to m' t y ≡ list_to w.lists t y ++ at_place t y (outgoing o))
    (mover : (t : TrunkId) (s : TrunkSide) → side_at n t ≡ Some s → joined s.state ≡ true → (b : Node) (p q : Pid)
    → p.node ≡ x → q.node ≡ s.peer
    → Kept (side_of n p q (news p q (list_to w.lists t s.peer))) (side_of b q p (news q p (list_to w.lists t x)))
    → Kept (side_of o.node p q (news p q (list_to m' t s.peer))) (side_of b q p (news q p (list_to m' t x))))
    (k : WorldKept w) where
  name_x : n.mint.name ≡ x
  name_x = node_of_name w.nodes x n hx

  here : node_of (set_node w.nodes x o.node) x ≡ Some o.node
  here = node_of_set_same w.nodes x n o.node hx (nm ∙ name_x)

  there : (y : Name) → (x ≡ y → ⊥) → node_of (set_node w.nodes x o.node) y ≡ node_of w.nodes y
  there y d = node_of_set_other w.nodes x y o.node (nm ∙ name_x) d

  at_x : (t : TrunkId) → side_at o.node t ≡ side_at n t
  at_x t = ap (λ l. fm.get l t) sd

  -- each node is x's, or one of before
  new_nodes : (y : Name) (a : Node) → node_of (set_node w.nodes x o.node) y ≡ Some a → NodeKept a
  new_nodes y a h = by_name (NodeKept a) x y
      (λ e. subst (λ v. NodeKept v) (same_Some o.node a (sym here ∙ ap (node_of (set_node w.nodes x o.node)) e ∙ h)) ko)
      (λ d. k.nodes y a (sym (there y d) ∙ h))

  new_sides : (y : Name) (a : Node) → node_of (set_node w.nodes x o.node) y ≡ Some a → SidesKept a
  new_sides y a h = by_name (SidesKept a) x y
      (λ e. subst (λ v. SidesKept v) (same_Some o.node a (sym here ∙ ap (node_of (set_node w.nodes x o.node)) e ∙ h))
      (sides_kept n o.node sd nm (k.sides x n hx)))
      (λ d. k.sides y a (sym (there y d) ∙ h))

  met_still : (t : TrunkId) (y : Name) → Met w.nodes t y → Met (set_node w.nodes x o.node) t y
  met_still t y u = by_name (Met (set_node w.nodes x o.node) t y) x t.dialer
      (λ e.
      let same : n ≡ u.dialer = same_Some n u.dialer (sym hx ∙ ap (node_of w.nodes) e ∙ u.at) in
      record {
        dialer = o.node;
        at = ap (node_of (set_node w.nodes x o.node)) (sym e) ∙ here;
        side = u.side;
        there = at_x t ∙ ap (λ v. side_at v t) same ∙ u.there;
        peer = u.peer;
      })
      (λ d. record { dialer = u.dialer; at = there t.dialer d ∙ u.at; side = u.side; there = u.there; peer = u.peer })

  new_met : (y : Name) (a : Node) (t : TrunkId) (s : TrunkSide) → node_of (set_node w.nodes x o.node) y ≡ Some a
      → side_at a t ≡ Some s → (t.dialer ≡ y → ⊥) → Met (set_node w.nodes x o.node) t y
  new_met y a t s h f d = by_name (Met (set_node w.nodes x o.node) t y) x y
      (λ e.
      let same : o.node ≡ a = same_Some o.node a (sym here ∙ ap (node_of (set_node w.nodes x o.node)) e ∙ h) in
      met_still t y (subst (λ z. Met w.nodes t z) e (k.met x n t s hx (sym (at_x t) ∙ ap (λ v. side_at v t) same ∙ f) (λ i. d (i ∙ e)))))
      (λ e. met_still t y (k.met y a t s (sym (there y e) ∙ h) f d))

  -- x sends nothing on a trunk of two others
  not_between : (y z : Name) (b : Node) (t : TrunkId) (v : TrunkSide) → node_of w.nodes y ≡ Some b → side_at b t ≡ Some v
      → v.peer ≡ z → (x ≡ y → ⊥) → (x ≡ z → ⊥) → at_place t y (outgoing o) ≡ []
  not_between y z b t v hb f vz dy dz = at_place_none o.node.sides (outgoing o) t y ro (λ r.
      let u = route_from n y t (ap (λ l. route_in (fm.entries l) y) (sym sd) ∙ r) in
      by_test ⊥ (same_name t.dialer y)
      (λ e.
      let td : t.dialer ≡ y = same_name_true t.dialer y e in
      let g = k.met x n t u.found hx u.there (λ i. dy (sym i ∙ td)) in
      let same : g.dialer ≡ b = same_Some g.dialer b (sym g.at ∙ ap (node_of w.nodes) td ∙ hb) in
      let same2 : g.side ≡ v = same_Some g.side v (sym g.there ∙ ap (λ m. side_at m t) same ∙ f) in
      dz (sym g.peer ∙ ap (λ (m : TrunkSide). m.peer) same2 ∙ vz))
      (λ e.
      let ny : t.dialer ≡ y → ⊥ = λ i. let c : true ≡ false = sym (same_name_is t.dialer y i) ∙ e in cc in
      pick u ((k.sides y b hb).mine t v f) ((k.sides x n hx).mine t u.found u.there) ny))
    where
      pick : (u : Routed n y t) → (t.dialer ≡ b.mint.name) ⊎ (t.dialer ≡ v.peer) → (t.dialer ≡ n.mint.name)
          ⊎ (t.dialer ≡ u.found.peer) → (t.dialer ≡ y → ⊥) → ⊥
      pick u (inl i) j ny = ny (i ∙ node_of_name w.nodes y b hb)
      pick u (inr i) (inl j) ny = dz (sym name_x ∙ sym j ∙ i ∙ vz)
      pick u (inr i) (inr j) ny = ny (j ∙ u.peer)

  new_trunks : TrunkPairs (set_node w.nodes x o.node) m'
  new_trunks y z a b t s v ha hb fa fb sz vy us jv p q py qz = by_name _ x y
      (λ e.
      let na : o.node ≡ a = same_Some o.node a (sym here ∙ ap (node_of (set_node w.nodes x o.node)) e ∙ ha) in
      let fn : side_at n t ≡ Some s = sym (at_x t) ∙ ap (λ m. side_at m t) na ∙ fa in
      let dz : x ≡ z → ⊥ = λ i. (k.sides x n hx).other t s fn (sz ∙ sym i ∙ sym name_x) in
      let old = k.trunks y z n b t s v (ap (node_of w.nodes) (sym e) ∙ hx) (sym (there z dz) ∙ hb) fn fb sz vy us jv p q py qz in
      subst (λ m. Kept (side_of m p q (news p q (list_to m' t z))) (side_of b q p (news q p (list_to m' t y)))) na
      (subst (λ c. Kept (side_of o.node p q (news p q (list_to m' t z))) (side_of b q p (news q p (list_to m' t c)))) e
      (subst (λ c. Kept (side_of o.node p q (news p q (list_to m' t c))) (side_of b q p (news q p (list_to m' t x)))) sz
      (mover t s fn (up_joined s.state us) b p q (py ∙ sym e) (qz ∙ sym sz)
      (subst (λ c. Kept (side_of n p q (news p q (list_to w.lists t c))) (side_of b q p (news q p (list_to w.lists t x)))) (sym sz)
      (subst (λ c. Kept (side_of n p q (news p q (list_to w.lists t z))) (side_of b q p (news q p (list_to w.lists t c)))) (sym e) old))))))
      (λ dy. by_name _ x z
      (λ e.
      let nb : o.node ≡ b = same_Some o.node b (sym here ∙ ap (node_of (set_node w.nodes x o.node)) e ∙ hb) in
      let fn : side_at n t ≡ Some v = sym (at_x t) ∙ ap (λ m. side_at m t) nb ∙ fb in
      let old = k.trunks y z a n t s v (sym (there y dy) ∙ ha) (ap (node_of w.nodes) (sym e) ∙ hx) fa fn sz vy us jv p q py qz in
      kept_swap _ _ (subst (λ m. Kept (side_of m q p (news q p (list_to m' t y))) (side_of a p q (news p q (list_to m' t z)))) nb
      (subst (λ c. Kept (side_of o.node q p (news q p (list_to m' t y))) (side_of a p q (news p q (list_to m' t c)))) e
      (subst (λ c. Kept (side_of o.node q p (news q p (list_to m' t c))) (side_of a p q (news p q (list_to m' t x)))) vy
      (mover t v fn jv a q p (qz ∙ sym e) (py ∙ sym vy)
      (subst (λ c. Kept (side_of n q p (news q p (list_to w.lists t c))) (side_of a p q (news p q (list_to w.lists t x)))) (sym vy)
      (subst (λ c. Kept (side_of n q p (news q p (list_to w.lists t y))) (side_of a p q (news p q (list_to w.lists t c))))
      (sym e) (kept_swap _ _ old))))))))
      (λ dz.
      let a1 : list_to m' t z ≡ list_to w.lists t z =
      lists t z (λ i. dz (sym i))
      ∙ ap (λ l. list_to w.lists t z ++ l) (not_between z y b t v (sym (there z dz) ∙ hb) fb vy dz dy)
      ∙ append-nil (list_to w.lists t z) in
      let a2 : list_to m' t y ≡ list_to w.lists t y =
      lists t y (λ i. dy (sym i))
      ∙ ap (λ l. list_to w.lists t y ++ l) (not_between y z a t s (sym (there y dy) ∙ ha) fa sz dy dz)
      ∙ append-nil (list_to w.lists t y) in
      subst (λ l. Kept (side_of a p q (news p q l)) (side_of b q p (news q p (list_to m' t y)))) (sym a1)
      (subst (λ l. Kept (side_of a p q (news p q (list_to w.lists t z))) (side_of b q p (news q p l))) (sym a2)
      (k.trunks y z a b t s v (sym (there y dy) ∙ ha) (sym (there z dz) ∙ hb) fa fb sz vy us jv p q py qz))))

  pub changed : WorldKept (record { names = w.names; nodes = set_node w.nodes x o.node; lists = m' })
  changed = record { nodes = new_nodes; sides = new_sides; met = new_met; trunks = new_trunks }
