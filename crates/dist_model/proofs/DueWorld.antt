-- What stands first in a list is due: the trunks of a world.
use Rattle.std.proofs.Common.{◌≡◌, List, sym, ap, ◌∙◌, subst, Option, Some, None, ◌⊎◌}
use Rattle.std.proofs.lemmas.Option.{same_Some}
use Rattle.std.specs.FinMap.{FinMap}
use Rattle.dist_model.proofs.Due.{DueRow, row_with, state_in}
use Rattle.dist_model.proofs.Pairs.{Met}
use Rattle.dist_model.proofs.Routes.{node_of_set_other, node_of_set_same}
use Rattle.dist_model.proofs.Sides.{side_at}
use Rattle.dist_model.specs.Items.{Item}
use Rattle.dist_model.specs.Names.{Name, place_cmp}
use Rattle.dist_model.specs.Node.{Node}
use Rattle.dist_model.specs.Sides.{State, TrunkSide}
use Rattle.dist_model.specs.World.{list_to, node_of, set_node}
use Rattle.erl_names.specs.declared.trunk.TrunkId.{TrunkId}
use Rattle.dist_model.proofs.Calls.{by_name, by_trunk}

abbrev pub far_in : Option Node → TrunkId → Option State
far_in None t = None
far_in (Some a) t = state_in (side_at a t)

abbrev pub Due : List Node → FinMap place_cmp (List Item) → Type 0
Due ns m = (t : TrunkId) (d : Node) (s : TrunkSide) → node_of ns t.dialer ≡ Some d → side_at d t ≡ Some s
    → DueRow s.state (far_in (node_of ns s.peer) t) (list_to m t t.dialer) (list_to m t s.peer)

-- who dialed a trunk that x has a side of
abbrev pub Whose : List Node → Name → TrunkId → TrunkSide → Type 0
Whose ns x t s = (t.dialer ≡ x) ⊎ ((t.dialer ≡ x → ⊥) × (t.dialer ≡ s.peer) × Met ns t x)

-- one node changes
module _ (ns : List Node) (m : FinMap place_cmp (List Item)) (x : Name) (n n' : Node) (hx : node_of ns x ≡ Some n) (nn : n'.mint.name ≡ x)
  where
    pub here : node_of (set_node ns x n') x ≡ Some n'
    here = node_of_set_same ns x n n' hx nn

    pub there : (y : Name) → (x ≡ y → ⊥) → node_of (set_node ns x n') y ≡ node_of ns y
    there y d = node_of_set_other ns x y n' nn d

    -- but its side of a trunk doesn't
    pub far_kept : (y : Name) (t : TrunkId) → side_at n' t ≡ side_at n t → far_in (node_of (set_node ns x n') y) t ≡ far_in (node_of ns y) t
    far_kept y t same = by_name _ x y
        (λ e. ap (λ o. far_in o t) (ap (node_of (set_node ns x n')) (sym e) ∙ here) ∙ ap state_in same
        ∙ ap (λ o. far_in o t) (sym hx ∙ ap (node_of ns) e))
        (λ e. ap (λ o. far_in o t) (there y e))

    pub dialer_kept : (t : TrunkId) (d : Node) (s : TrunkSide) → side_at n' t ≡ side_at n t → node_of (set_node ns x n') t.dialer ≡ Some d
        → side_at d t ≡ Some s
        → (e : Node) × (node_of ns t.dialer ≡ Some e) × (side_at e t ≡ Some s)
    dialer_kept t d s same hd hs = by_name _ x t.dialer
        (λ e.
        let nd : n' ≡ d = same_Some n' d (sym here ∙ ap (node_of (set_node ns x n')) e ∙ hd) in
        (n, ap (node_of ns) (sym e) ∙ hx, sym same ∙ ap (λ z. side_at z t) nd ∙ hs))
        (λ e. (d, sym (there t.dialer e) ∙ hd, hs))

    -- the side of one trunk changes, and what travels on that
    module _ (u : TrunkId) (m' : FinMap place_cmp (List Item)) (others : (t : TrunkId) → (t ≡ u → ⊥) → side_at n' t ≡ side_at n t)
        (lists : (t : TrunkId) (z : Name) → (t ≡ u → ⊥) → list_to m' t z ≡ list_to m t z) where
      away : Due ns m → (t : TrunkId) (d : Node) (s : TrunkSide) → (t ≡ u → ⊥) → node_of (set_node ns x n') t.dialer ≡ Some d
          → side_at d t ≡ Some s → DueRow s.state (far_in (node_of (set_node ns x n') s.peer) t) (list_to m' t t.dialer)
          (list_to m' t s.peer)
      away g t d s k hd hs =
          let was = dialer_kept t d s (others t k) hd hs in
          row_with s.state _ _ _ _ _ _ (sym (far_kept s.peer t (others t k))) (sym (lists t t.dialer k)) (sym (lists t s.peer k))
          (g t was.0 s was.1 was.2)

      -- x dialed it
      pub due_dialer : u.dialer ≡ x → (v s0 : TrunkSide) → side_at n u ≡ Some v → side_at n' u ≡ Some s0 → v.peer ≡ s0.peer
          → (s0.peer ≡ x → ⊥)
          → ((o : Option State) → DueRow v.state o (list_to m u x) (list_to m u s0.peer)
          → DueRow s0.state o (list_to m' u x) (list_to m' u s0.peer)) → Due ns m → Due (set_node ns x n') m'
      due_dialer ux v s0 hv hs0 pe px f g t d s hd hs = by_trunk _ t u
          (λ e.
          let dx : t.dialer ≡ x = ap (λ (z : TrunkId). z.dialer) e ∙ ux in
          let nd : n' ≡ d = same_Some n' d (sym here ∙ ap (node_of (set_node ns x n')) (sym dx) ∙ hd) in
          let ss : s0 ≡ s = same_Some s0 s (sym hs0 ∙ ap (side_at n') (sym e) ∙ ap (λ z. side_at z t) nd ∙ hs) in
          let old : DueRow v.state (far_in (node_of ns v.peer) u) (list_to m u u.dialer) (list_to m u v.peer) = g u n v
          (ap (node_of ns) ux ∙ hx) hv in
          let old2 : DueRow v.state (far_in (node_of ns s0.peer) u) (list_to m u x) (list_to m u s0.peer) =
          subst (λ z. DueRow v.state (far_in (node_of ns z) u) (list_to m u x) (list_to m u z)) pe
          (subst (λ z. DueRow v.state (far_in (node_of ns v.peer) u) (list_to m u z) (list_to m u v.peer)) ux old) in
          let new : DueRow s0.state (far_in (node_of ns s0.peer) u) (list_to m' u x) (list_to m' u s0.peer) = f
          (far_in (node_of ns s0.peer) u)
          old2 in
          let new2 : DueRow s0.state (far_in (node_of (set_node ns x n') s0.peer) u) (list_to m' u x) (list_to m' u s0.peer) =
          subst (λ o. DueRow s0.state (far_in o u) (list_to m' u x) (list_to m' u s0.peer)) (sym (there s0.peer (λ i. px (sym i)))) new in
          let new3 : DueRow s0.state (far_in (node_of (set_node ns x n') s0.peer) t) (list_to m' t x) (list_to m' t s0.peer) =
          subst (λ z. DueRow s0.state (far_in (node_of (set_node ns x n') s0.peer) z) (list_to m' z x) (list_to m' z s0.peer)) (sym e) new2
          in
          subst (λ (z : TrunkSide). DueRow z.state (far_in (node_of (set_node ns x n') z.peer) t) (list_to m' t t.dialer)
          (list_to m' t z.peer))
          ss
          (subst (λ z. DueRow s0.state (far_in (node_of (set_node ns x n') s0.peer) t) (list_to m' t z) (list_to m' t s0.peer)) (sym dx)
          new3))
          (λ k. away g t d s k hd hs)

      -- the peer dialed it
      pub due_acceptor : (u.dialer ≡ x → ⊥) → Met ns u x
          → ((v : State) → DueRow v (state_in (side_at n u)) (list_to m u u.dialer) (list_to m u x)
          → DueRow v (state_in (side_at n' u)) (list_to m' u u.dialer) (list_to m' u x)) → Due ns m → Due (set_node ns x n') m'
      due_acceptor ux met f g t d s hd hs = by_trunk _ t u
          (λ e.
          let dx : x ≡ t.dialer → ⊥ = λ i. ux (ap (λ (z : TrunkId). z.dialer) (sym e) ∙ sym i) in
          let hd0 : node_of ns u.dialer ≡ Some d = ap (λ (z : TrunkId). node_of ns z.dialer) (sym e) ∙ sym (there t.dialer dx) ∙ hd in
          let md : met.dialer ≡ d = same_Some met.dialer d (sym met.at ∙ hd0) in
          let ms : met.side ≡ s = same_Some met.side s (sym met.there ∙ ap (λ z. side_at z u) md ∙ ap (side_at d) (sym e) ∙ hs) in
          let sx : s.peer ≡ x = ap (λ (z : TrunkSide). z.peer) (sym ms) ∙ met.peer in
          let old : DueRow s.state (far_in (node_of ns s.peer) u) (list_to m u u.dialer) (list_to m u s.peer) = g u d s hd0
          (ap (side_at d) (sym e) ∙ hs) in
          let old2 : DueRow s.state (far_in (node_of ns x) u) (list_to m u u.dialer) (list_to m u x) = subst
          (λ z. DueRow s.state (far_in (node_of ns z) u) (list_to m u u.dialer) (list_to m u z)) sx old in
          let old3 : DueRow s.state (state_in (side_at n u)) (list_to m u u.dialer) (list_to m u x) = subst
          (λ o. DueRow s.state (far_in o u) (list_to m u u.dialer) (list_to m u x)) hx old2 in
          let new : DueRow s.state (state_in (side_at n' u)) (list_to m' u u.dialer) (list_to m' u x) = f s.state old3 in
          let new2 : DueRow s.state (far_in (node_of (set_node ns x n') x) u) (list_to m' u u.dialer) (list_to m' u x) =
          subst (λ o. DueRow s.state o (list_to m' u u.dialer) (list_to m' u x)) (sym (ap (λ o. far_in o u) here)) new in
          let new3 : DueRow s.state (far_in (node_of (set_node ns x n') x) t) (list_to m' t t.dialer) (list_to m' t x) =
          subst (λ (z : TrunkId). DueRow s.state (far_in (node_of (set_node ns x n') x) z) (list_to m' z z.dialer) (list_to m' z x)) (sym e)
          new2 in
          subst (λ z. DueRow s.state (far_in (node_of (set_node ns x n') z) t) (list_to m' t t.dialer) (list_to m' t z)) (sym sx) new3)
          (λ k. away g t d s k hd hs)

      -- x dials it
      pub due_new : u.dialer ≡ x → (s0 : TrunkSide) → side_at n' u ≡ Some s0
          → DueRow s0.state (far_in (node_of (set_node ns x n') s0.peer) u) (list_to m' u u.dialer) (list_to m' u s0.peer) → Due ns m
          → Due (set_node ns x n') m'
      due_new ux s0 hs0 r g t d s hd hs = by_trunk _ t u
          (λ e.
          let nd : n' ≡ d = same_Some n' d (sym here ∙ ap (node_of (set_node ns x n')) (sym (ap (λ (z : TrunkId). z.dialer) e ∙ ux)) ∙ hd)
          in
          let ss : s0 ≡ s = same_Some s0 s (sym hs0 ∙ ap (side_at n') (sym e) ∙ ap (λ z. side_at z t) nd ∙ hs) in
          subst (λ (z : TrunkSide). DueRow z.state (far_in (node_of (set_node ns x n') z.peer) t) (list_to m' t t.dialer)
          (list_to m' t z.peer))
          ss
          (subst (λ (z : TrunkId). DueRow s0.state (far_in (node_of (set_node ns x n') s0.peer) z) (list_to m' z z.dialer)
          (list_to m' z s0.peer)) (sym e) r))
          (λ k. away g t d s k hd hs)
