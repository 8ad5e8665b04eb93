-- What stands first in a list is due: signals are sent on the trunks that are up.
use Rattle.std.proofs.Common.{◌≡◌, Bool, true, false, cond, List, [], ◌∷◌, ◌++◌, refl, sym, ap, ◌∙◌}
use Rattle.std.proofs.Common.{subst, Option, Some, None, inl, inr, ◌&&◌, append-nil, append_assoc}
use Rattle.std.proofs.lemmas.Option.{same_Some, none-some}
use Rattle.std.specs.FinMap.{FinMap}
use Rattle.dist_model.proofs.Calls.{by_test}
use Rattle.dist_model.proofs.Due.{acceptor_signals, dialer_signals, DueRow, row_with, state_in, strays}
use Rattle.dist_model.proofs.DueWorld.{dialer_kept, Due, far_in, far_kept, Whose}
use Rattle.dist_model.proofs.Envelopes.{Envelope, outgoing}
use Rattle.dist_model.proofs.Keys.{same_trunk}
use Rattle.dist_model.proofs.Posts.{AllRouted}
use Rattle.dist_model.proofs.Pairs.{Met}
use Rattle.dist_model.proofs.Routes.{at_place, list_to_carried}
use Rattle.dist_model.proofs.Sides.{side_at, SidesKept, up_is}
use Rattle.dist_model.proofs.Steps.{own_none}
use Rattle.dist_model.proofs.Trunks.{is_accept}
use Rattle.dist_model.proofs.TrunksStay.{unsent}
use Rattle.std.specs.FinMap as fm
use Rattle.dist_model.specs.Items.{Handshake, Item}
use Rattle.dist_model.specs.Names.{Name, place_cmp, same_name}
use Rattle.dist_model.specs.Node.{Node}
use Rattle.dist_model.specs.Sides.{State, TrunkSide, Up, is_up}
use Rattle.dist_model.specs.Work.{Work}
use Rattle.dist_model.specs.World.{carried, list_to, node_of, set_node}
use Rattle.erl_names.specs.declared.trunk.TrunkId.{TrunkId}
use Rattle.dist_model.specs.Due.{is_handshake}

abbrev pub Words : List Item → Type 0
Words [] = Unit {0}
Words (i ∷ l) = (is_handshake i ≡ false) × Words l

abbrev pub AllWords : List Envelope → Type 0
AllWords [] = Unit {0}
AllWords (e ∷ es) = (is_handshake e.item ≡ false) × AllWords es

pub words-push : (es : List Envelope) (e : Envelope) → AllWords es → is_handshake e.item ≡ false → AllWords (es ++ e ∷ [])
words-push [] e a h = (h, tt)
words-push (d ∷ es) e a h = (a.0, words-push es e a.1 h)

words_at : (t : TrunkId) (y : Name) (es : List Envelope) → AllWords es → Words (at_place t y es)
words_at t y [] a = tt
words_at t y (e ∷ es) a = go (same_trunk t e.trunk && same_name y e.target) (words_at t y es a.1)
  where
    go : (b : Bool) → Words (at_place t y es) → Words (cond b (e.item ∷ []) [] ++ at_place t y es)
    go true k = (a.0, k)
    go false k = k

word_strays : (b : Bool) (i : Item) → is_handshake i ≡ false → (strays b i ≡ false) × (is_accept i ≡ false)
word_strays b (Handshake m) h = cc
word_strays b _ h = (refl, refl)

dialer_words : (l : List Item) (o : Option State) (D A : List Item) → Words l → DueRow Up o D A → DueRow Up o D (A ++ l)
dialer_words [] o D A h r = row_with Up o o D D A (A ++ []) refl refl (sym (append-nil A)) r
dialer_words (i ∷ l) o D A h r = row_with Up o o D D ((A ++ i ∷ []) ++ l) (A ++ i ∷ l) refl refl (append_assoc A (i ∷ []) l)
    (dialer_words l o D (A ++ i ∷ []) h.1 (dialer_signals o i D A h.0 (word_strays false i h.0).0 r))

acceptor_words : (l : List Item) (v : State) (D A : List Item) → Words l → DueRow v (Some Up) D A → DueRow v (Some Up) (D ++ l) A
acceptor_words [] v D A h r = row_with v (Some Up) (Some Up) D (D ++ []) A A refl (sym (append-nil D)) refl r
acceptor_words (i ∷ l) v D A h r =
    let w = word_strays true i h.0 in
    row_with v (Some Up) (Some Up) ((D ++ i ∷ []) ++ l) (D ++ i ∷ l) A A refl (append_assoc D (i ∷ []) l) refl
    (acceptor_words l v (D ++ i ∷ []) A h.1 (acceptor_signals v i D A h.0 w.0 w.1 r))

-- no side changes, and what is sent is no message of the handshake
pub record Sent (n : Node) (o : Work) : Type 0 where
  pub sides : o.node.sides ≡ n.sides
  pub name : o.node.mint.name ≡ n.mint.name
  pub routed : AllRouted o.node.sides (outgoing o)
  pub words : AllWords (outgoing o)

module _ (ns : List Node) (m : FinMap place_cmp (List Item)) (x : Name) (n : Node) (o : Work) (hx : node_of ns x ≡ Some n)
    (nx : n.mint.name ≡ x) (sk : SidesKept n)
    (told : (t : TrunkId) (s : TrunkSide) → side_at n t ≡ Some s → Whose ns x t s) (k : Sent n o) where
  same : (t : TrunkId) → side_at o.node t ≡ side_at n t
  same t = ap (λ l. fm.get l t) k.sides

  far_same : (y : Name) (t : TrunkId) → far_in (node_of (set_node ns x o.node) y) t ≡ far_in (node_of ns y) t
  far_same y t = far_kept ns m x n o.node hx (k.name ∙ nx) y t (same t)

  abbrev m' : FinMap place_cmp (List Item)
  m' = carried m o.effects

  added : (t : TrunkId) (z : Name) → list_to m' t z ≡ list_to m t z ++ at_place t z (outgoing o)
  added t z = list_to_carried m o.effects t z

  none_added : (t : TrunkId) (z : Name) → at_place t z (outgoing o) ≡ [] → list_to m t z ≡ list_to m' t z
  none_added t z h = sym (append-nil (list_to m t z)) ∙ ap (λ l. list_to m t z ++ l) (sym h) ∙ sym (added t z)

  pub due_moved : Due ns m → Due (set_node ns x o.node) m'
  due_moved g t d s hd hs = go (side_at n t) refl
    where
      was : (e : Node) × (node_of ns t.dialer ≡ Some e) × (side_at e t ≡ Some s)
      was = dialer_kept ns m x n o.node hx (k.name ∙ nx) t d s (same t) hd hs

      row : DueRow s.state (far_in (node_of ns s.peer) t) (list_to m t t.dialer) (list_to m t s.peer)
      row = g t was.0 s was.1 was.2

      calm : ((v : TrunkSide) → side_at n t ≡ Some v → is_up v.state ≡ false)
          → DueRow s.state (far_in (node_of (set_node ns x o.node) s.peer) t) (list_to m' t t.dialer) (list_to m' t s.peer)
      calm nu = row_with s.state _ _ _ _ _ _ (sym (far_same s.peer t)) (none_added t t.dialer (unsent n o t t.dialer k.sides k.routed nu))
          (none_added t s.peer (unsent n o t s.peer k.sides k.routed nu)) row

      own : at_place t x (outgoing o) ≡ []
      own = own_none n o x t sk nx k.sides k.routed

      mine : (v : TrunkSide) → side_at n t ≡ Some v → v.state ≡ Up → t.dialer ≡ x
          → DueRow s.state (far_in (node_of (set_node ns x o.node) s.peer) t) (list_to m' t t.dialer) (list_to m' t s.peer)
      mine v hv u e =
          let en : was.0 ≡ n = same_Some was.0 n (sym was.1 ∙ ap (node_of ns) e ∙ hx) in
          let sv : v ≡ s = same_Some v s (sym hv ∙ ap (λ z. side_at z t) (sym en) ∙ was.2) in
          let su : s.state ≡ Up = ap (λ (z : TrunkSide). z.state) (sym sv) ∙ u in
          row_with s.state _ _ _ _ _ _ (sym (far_same s.peer t)) (none_added t t.dialer (ap (λ z. at_place t z (outgoing o)) e ∙ own))
          (sym (added t s.peer))
          (subst (λ z. DueRow z (far_in (node_of ns s.peer) t) (list_to m t t.dialer)
          (list_to m t s.peer ++ at_place t s.peer (outgoing o)))
          (sym su)
          (dialer_words (at_place t s.peer (outgoing o)) _ _ _ (words_at t s.peer (outgoing o) k.words)
          (subst (λ z. DueRow z (far_in (node_of ns s.peer) t) (list_to m t t.dialer) (list_to m t s.peer)) su row)))

      theirs : (v : TrunkSide) → side_at n t ≡ Some v → v.state ≡ Up → Met ns t x
          → DueRow s.state (far_in (node_of (set_node ns x o.node) s.peer) t) (list_to m' t t.dialer) (list_to m' t s.peer)
      theirs v hv u q =
          let dq : q.dialer ≡ was.0 = same_Some q.dialer was.0 (sym q.at ∙ was.1) in
          let sq : q.side ≡ s = same_Some q.side s (sym q.there ∙ ap (λ z. side_at z t) dq ∙ was.2) in
          let sx : s.peer ≡ x = ap (λ (z : TrunkSide). z.peer) (sym sq) ∙ q.peer in
          let fu : far_in (node_of ns s.peer) t ≡ Some Up = ap (λ z. far_in z t) (ap (node_of ns) sx ∙ hx) ∙ ap state_in hv ∙ ap Some u in
          row_with s.state _ _ _ _ _ _ (sym fu ∙ sym (far_same s.peer t)) (sym (added t t.dialer))
          (none_added t s.peer (ap (λ z. at_place t z (outgoing o)) sx ∙ own))
          (acceptor_words (at_place t t.dialer (outgoing o)) s.state _ _ (words_at t t.dialer (outgoing o) k.words)
          (row_with s.state _ _ _ _ _ _ fu refl refl row))

      up : (v : TrunkSide) → side_at n t ≡ Some v → v.state ≡ Up → Whose ns x t v
          → DueRow s.state (far_in (node_of (set_node ns x o.node) s.peer) t) (list_to m' t t.dialer) (list_to m' t s.peer)
      up v hv u (inl e) = mine v hv u e
      up v hv u (inr e) = theirs v hv u e.2

      go : (p : Option TrunkSide) → side_at n t ≡ p → DueRow s.state (far_in (node_of (set_node ns x o.node) s.peer) t)
          (list_to m' t t.dialer) (list_to m' t s.peer)
      go None e = calm (λ v hv. absurd (none-some v (sym e ∙ hv)))
      go (Some v) e = by_test _ (is_up v.state) (λ u. up v e (up_is v.state u) (told t v e))
          (λ u. calm (λ z hz. ap (λ (y : TrunkSide). is_up y.state) (same_Some z v (sym hz ∙ e)) ∙ u))
