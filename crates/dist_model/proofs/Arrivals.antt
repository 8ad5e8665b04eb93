-- What comes on a side that is known.
use Rattle.std.proofs.Common.{◌≡◌, ℕ, Bool, true, false, cond, List, [], ◌∷◌, refl, sym, ap, ◌∙◌, subst, ◌||◌, Some, ◌⊎◌, inl, inr}
use Rattle.std.proofs.lemmas.Option.{same_Some}
use Rattle.std.specs.FinMap as fm
use Rattle.conn_core.specs.declared.arrival.Fault.{Fault}
use Rattle.erl_handshake.specs.declared.fault.ShakeFault.{ShakeFault}
use Rattle.dist_model.proofs.Calls.{IfGoes, by_test}
use Rattle.dist_model.proofs.Handshake.{as_state, good_acceptor_up, good_awaits_ack, good_awaits_challenge}
use Rattle.dist_model.proofs.Handshake.{good_dialer_up, good_lost, in_state, lost_joined}
use Rattle.dist_model.proofs.Keys.{same_name_is, same_name_true}
use Rattle.dist_model.proofs.Primitives.{good_popped, good_pushed}
use Rattle.dist_model.proofs.SideChanges.{side_after_same, with_side_at}
use Rattle.dist_model.proofs.Routes.{node_of_name, node_of_set_other, node_of_set_same}
use Rattle.dist_model.proofs.Rules.{awaits_reply, awaits_status}
use Rattle.dist_model.proofs.Sides.{asks, joined, side_at}
use Rattle.dist_model.proofs.Signals.{good_arrive}
use Rattle.dist_model.proofs.Trunks.{Good, Posted, Row, begun, has, holds_side, is_accept}
use Rattle.dist_model.proofs.Trunks.{is_challenge, is_early, is_reply, partners, role_state, went_up}
use Rattle.dist_model.specs.declared.report.Effect.{Effect}
use Rattle.dist_model.specs.Arrivals.{is_good, on_up}
use Rattle.dist_model.specs.Commands.{Accepts, Outcome}
use Rattle.dist_model.specs.declared.report.Answer.{Answer}
use Rattle.dist_model.specs.Handshake.{fault, set_state, write}
use Rattle.dist_model.specs.Items.{Handshake, Item, news_in, kind_of}
use Rattle.dist_model.specs.Losses.{lose_at}
use Rattle.dist_model.specs.Names.{Name, same_name}
use Rattle.dist_model.specs.Node.{Node}
use Rattle.dist_model.specs.Sides.{Accepting, AwaitsAck, AwaitsChallenge, AwaitsStatus}
use Rattle.dist_model.specs.Sides.{Gone, Losing, State, TrunkSide, Up, is_gone, is_up, lost}
use Rattle.dist_model.specs.Taking.{take_item}
use Rattle.dist_model.specs.Work.{Work, at_work}
use Rattle.dist_model.specs.World.{World, carried, came_of, list_to, node_of, set_node}
use Rattle.erl_handshake.specs.Digest.{digest_of}
use Rattle.erl_handshake.specs.Roles.{is_answered}
use Rattle.erl_handshake.specs.declared.message.ShakeMsg.{ShakeMsg}
use Rattle.erl_handshake.specs.declared.status.Status.{Status}
use Rattle.erl_names.specs.declared.trunk.TrunkId.{TrunkId}
use Rattle.erl_term.specs.declared.term.Pid.{Pid}
use Rattle.erl_handshake.specs.declared.introduction.Introduction.{Introduction}

module _ (w : World) (x : Name) (n : Node) (t : TrunkId) (v : TrunkSide) (i : Item) (rest : List Item) (hx : node_of w.nodes x ≡ Some n)
    (h : side_at n t ≡ Some v) (g : Good w) (first : list_to w.lists t x ≡ i ∷ rest) where
  -- the world after the event
  abbrev Fin : Work → Type 0
  Fin o = Good (record { names = w.names; nodes = set_node w.nodes x o.node; lists = carried (fm.insert w.lists (t, x) rest) o.effects })

  nx : n.mint.name ≡ x
  nx = node_of_name w.nodes x n hx

  -- the side has its new state; the item is taken off
  popped_after : (s : TrunkSide) → Good (in_state w x n t s) → ((joined s.state ≡ false) ⊎ ((p q : Pid) → news_in p q i ≡ []))
      → Good (record { names = w.names; nodes = set_node w.nodes x (with_side_at n t s); lists = fm.insert w.lists (t, x) rest })
  popped_after s gs c = good_popped (in_state w x n t s) t x i rest gs first (λ m u hm hu j p q. pick c m u hm hu j p q)
    where
      here : node_of (set_node w.nodes x (with_side_at n t s)) x ≡ Some (with_side_at n t s)
      here = node_of_set_same w.nodes x n (with_side_at n t s) hx nx

      pick : (joined s.state ≡ false) ⊎ ((p q : Pid) → news_in p q i ≡ []) → (m : Node) (u : TrunkSide)
          → node_of (set_node w.nodes x (with_side_at n t s)) x ≡ Some m → side_at m t ≡ Some u → joined u.state ≡ true
          → (p q : Pid) → news_in p q i ≡ []
      pick (inr e) m u hm hu j p q = e p q
      pick (inl e) m u hm hu j p q =
          let nm : with_side_at n t s ≡ m = same_Some (with_side_at n t s) m (sym here ∙ hm) in
          let su : s ≡ u = same_Some s u (sym (side_after_same n t s) ∙ ap (λ z. side_at z t) nm ∙ hu) in
          let c : true ≡ false = sym j ∙ ap (λ (z : TrunkSide). joined z.state) (sym su) ∙ e in cc

  -- and a message is sent to the peer
  sent_after : (s : TrunkSide) (m : ShakeMsg) → v.peer ≡ s.peer
      → Good (record { names = w.names; nodes = set_node w.nodes x (with_side_at n t s); lists = fm.insert w.lists (t, x) rest })
      → ((d a : Node) (u : TrunkSide) → node_of (set_node w.nodes x (with_side_at n t s)) t.dialer ≡ Some d
      → side_at d t ≡ Some u → node_of (set_node w.nodes x (with_side_at n t s)) u.peer ≡ Some a
      → (is_accept (Handshake m) ≡ true → (went_up (side_at a t) ≡ true) × (is_early u.state ≡ false))
      × (is_reply (Handshake m) ≡ true → is_early u.state ≡ false)
      × (is_challenge (Handshake m) ≡ true → begun (side_at a t) ≡ true) × (is_reply (Handshake m) ≡ true → begun (side_at a t) ≡ true))
      → ((is_accept (Handshake m) ≡ true) ⊎ (is_reply (Handshake m) ≡ true) → (is_gone s.state ≡ false) × (asks s.state ≡ false))
      → Good (record {
        names = w.names;
        nodes = set_node w.nodes x (with_side_at n t s);
        lists = carried (fm.insert w.lists (t, x) rest) (Effect.Sent (Some t) s.peer (Handshake m) ∷ []);
      })
  sent_after s m e gs fit lone =
      good_pushed
      (record { names = w.names; nodes = set_node w.nodes x (with_side_at n t s); lists = fm.insert w.lists (t, x) rest }) t
      s.peer m gs known fit
      (λ j z l.
      let p =
      partners
      (record { names = w.names; nodes = set_node w.nodes x (with_side_at n t s); lists = fm.insert w.lists (t, x) rest })
      gs.core x s.peer (with_side_at n t s) l.node t s l.side here l.at (side_after_same n t s) l.there
      (λ i. (gs.core.sides x (with_side_at n t s) here).other t s (side_after_same n t s) (sym i ∙ sym nx)) in
      record {
        node = with_side_at n t s;
        at = ap (node_of (set_node w.nodes x (with_side_at n t s))) (sym l.peer ∙ p.1) ∙ here;
        side = s;
        there = side_after_same n t s;
        peer = refl;
        stays = (lone j).0;
        goes_on = (lone j).1;
      })
    where
      here : node_of (set_node w.nodes x (with_side_at n t s)) x ≡ Some (with_side_at n t s)
      here = node_of_set_same w.nodes x n (with_side_at n t s) hx nx

      known : Posted (set_node w.nodes x (with_side_at n t s)) t s.peer
      known = by_test _ (same_name t.dialer x)
          (λ c. let d : t.dialer ≡ x = same_name_true t.dialer x c in
          (s, with_side_at n t s, ap (node_of (set_node w.nodes x (with_side_at n t s))) d ∙ here, side_after_same n t s, inr refl))
          (λ c.
          let d : t.dialer ≡ x → ⊥ = λ j. let z : true ≡ false = sym (same_name_is t.dialer x j) ∙ c in cc in
          let m = gs.core.met x (with_side_at n t s) t s here (side_after_same n t s) d in (
            m.side,
            m.dialer,
            m.at,
            m.there,
            inl (dialer_is ((gs.core.sides x (with_side_at n t s) here).mine t s (side_after_same n t s)) d),
          ))
        where
          dialer_is : (t.dialer ≡ n.mint.name) ⊎ (t.dialer ≡ s.peer) → (t.dialer ≡ x → ⊥) → t.dialer ≡ s.peer
          dialer_is (inl j) k = absurd (k (j ∙ nx))
          dialer_is (inr j) k = j

  -- a fault
  pub good_fault : (k : Fault) → IfGoes (fault k t v (at_work n)) Fin
  good_fault k = popped_after (as_state v (lost v.state)) (good_lost w x n t v hx h g) (inl (lost_joined v.state))

  -- on a side that is up: a good item is taken, else the side is lost
  pub good_on_up : is_up v.state ≡ true → IfGoes (on_up t v i (at_work n)) Fin
  good_on_up u = go (is_good n v i) refl
    where
      go : (b : Bool) → is_good n v i ≡ b
          → IfGoes (cond b (Accepts (Answer.Took (kind_of i)) (take_item v.peer i (at_work n))) (fault Fault.Forged t v (at_work n))) Fin
      go true e = good_arrive w x n t v i rest hx h u g first e
      go false e = good_fault Fault.Forged

  -- the handshake, where the item is the one that is due
  pub status_comes : (u : ℕ) → v.state ≡ AwaitsStatus u → ((p q : Pid) → news_in p q i ≡ [])
      → Fin (set_state t v (AwaitsChallenge u) (at_work n))
  status_comes u e none = popped_after (as_state v (AwaitsChallenge u)) (good_awaits_challenge w x n t v u hx h e g) (inr none)

  alive_comes : (u : ℕ) → v.state ≡ AwaitsStatus u → ((p q : Pid) → news_in p q i ≡ [])
      → Fin (write t v.peer (ShakeMsg.Status Status.True) (set_state t v (AwaitsChallenge u) (at_work n)))
  alive_comes u e none =
      sent_after (as_state v (AwaitsChallenge u)) (ShakeMsg.Status Status.True) refl (status_comes u e none)
      (λ d a s hd hs ha. (λ j. cc, λ j. cc, λ j. cc, λ j. cc)) (λ j. (refl, refl))

  pub challenge_comes : (u : ℕ) (c : Introduction) (r : List ℕ) → v.state ≡ AwaitsChallenge u → is_challenge i ≡ true → ((p q : Pid) → news_in p q i ≡ [])
      → Fin (write t v.peer (ShakeMsg.ChallengeReply u r)
      (set_state t (record { peer = v.peer; introduction = c; state = v.state }) (AwaitsAck u) (at_work n)))
  challenge_comes u c r e ch none =
      let s : TrunkSide = record { peer = v.peer; introduction = c; state = AwaitsAck u } in
      let here : node_of (set_node w.nodes x (with_side_at n t s)) x ≡ Some (with_side_at n t s) =
      node_of_set_same w.nodes x n (with_side_at n t s) hx nx in
      let dn : t.dialer ≡ x = dialer_here (role_true ((g.home x n hx).roles t v h)) in
      sent_after s (ShakeMsg.ChallengeReply u r) refl (popped_after s (good_awaits_ack w x n t v s u hx h e refl refl g) (inr none))
      (λ d a z hd hz ha. (
        λ j. cc,
        λ j.
            let nd : with_side_at n t s ≡ d =
            same_Some (with_side_at n t s) d (sym here ∙ ap (node_of (set_node w.nodes x (with_side_at n t s))) (sym dn) ∙ hd) in
            let sz : s ≡ z = same_Some s z (sym (side_after_same n t s) ∙ ap (λ y. side_at y t) nd ∙ hz) in
            ap (λ (y : TrunkSide). is_early y.state) (sym sz),
        λ j. cc,
        λ j.
            let nd : with_side_at n t s ≡ d =
            same_Some (with_side_at n t s) d (sym here ∙ ap (node_of (set_node w.nodes x (with_side_at n t s))) (sym dn) ∙ hd) in
            let sz : s ≡ z = same_Some s z (sym (side_after_same n t s) ∙ ap (λ y. side_at y t) nd ∙ hz) in
            let xv : x ≡ v.peer → ⊥ = λ k. (g.core.sides x n hx).other t v h (sym k ∙ sym nx) in
            let hv : node_of w.nodes v.peer ≡ Some a =
            sym (node_of_set_other w.nodes x v.peer (with_side_at n t s) nx xv)
            ∙ ap (λ (y : TrunkSide). node_of (set_node w.nodes x (with_side_at n t s)) y.peer) sz ∙ ha in
            let r = g.table t n a v (ap (node_of w.nodes) dn ∙ hx) h hv in
            by_test _ (begun (side_at a t)) (λ b. b)
            (λ b. let f : true ≡ false = sym (ap (λ y. has is_challenge (list_to w.lists t y)) dn
            ∙ ap (has is_challenge) first ∙ ap (λ y. y || has is_challenge rest) ch) ∙ (r.waits b).0 in cc),
      )) (λ j. (refl, refl))
    where
      role_true : role_state (same_name t.dialer n.mint.name) v.state ≡ true → same_name t.dialer n.mint.name ≡ true
      role_true f =
          by_test _ (same_name t.dialer n.mint.name) (λ b. b)
          (λ b. let k : false ≡ true = sym (ap (λ z. role_state z v.state) b ∙ ap (role_state false) e) ∙ f in cc)

      dialer_here : same_name t.dialer n.mint.name ≡ true → t.dialer ≡ x
      dialer_here b = same_name_true t.dialer n.mint.name b ∙ nx

  pub acceptance_comes : (u : ℕ) → v.state ≡ AwaitsAck u → is_accept i ≡ true → ((p q : Pid) → news_in p q i ≡ [])
      → Fin (set_state t v Up (at_work n))
  acceptance_comes u e got none =
      popped_after (as_state v Up)
      (good_dialer_up w x n t v u hx h e (ap (has is_accept) first ∙ ap (λ b. b || has is_accept rest) got) g) (inr none)

  reply_comes : (u : ℕ) (r : List ℕ) → v.state ≡ Accepting u → is_reply i ≡ true → ((p q : Pid) → news_in p q i ≡ [])
      → Fin (write t v.peer (ShakeMsg.ChallengeAck r) (set_state t v Up (at_work n)))
  reply_comes u r e got none =
      let s = as_state v Up in
      let here : node_of (set_node w.nodes x (with_side_at n t s)) x ≡ Some (with_side_at n t s) =
      node_of_set_same w.nodes x n (with_side_at n t s) hx nx in
      let gp =
      popped_after s
      (good_acceptor_up w x n t v u hx h e (ap (has is_reply) first ∙ ap (λ b. b || has is_reply rest) got) g)
      (inr none) in
      sent_after s (ShakeMsg.ChallengeAck r) refl gp
      (λ d a z hd hz ha. (λ j. up_row d a z hd hz ha (gp.table t d a z hd hz ha) here, λ j. cc, λ j. cc, λ j. cc)) (λ j. (refl, refl))
    where
      up_row : (d a : Node) (z : TrunkSide)
          → node_of (set_node w.nodes x (with_side_at n t (as_state v Up))) t.dialer ≡ Some d → side_at d t ≡ Some z
          → node_of (set_node w.nodes x (with_side_at n t (as_state v Up))) z.peer ≡ Some a
          → Row z.state (side_at a t) (list_to (fm.insert w.lists (t, x) rest) t t.dialer)
          (list_to (fm.insert w.lists (t, x) rest) t z.peer)
          → node_of (set_node w.nodes x (with_side_at n t (as_state v Up))) x ≡ Some (with_side_at n t (as_state v Up))
          → (went_up (side_at a t) ≡ true) × (is_early z.state ≡ false)
      up_row d a z hd hz ha r here =
          let nd : t.dialer ≡ x → ⊥ = λ j. not_mine j ((g.home x n hx).roles t v h) in
          let m = gp2.core.met x (with_side_at n t (as_state v Up)) t (as_state v Up) here (side_after_same n t (as_state v Up)) nd in
          let dm : m.dialer ≡ d = same_Some m.dialer d (sym m.at ∙ hd) in
          let sm : m.side ≡ z = same_Some m.side z (sym m.there ∙ ap (λ y. side_at y t) dm ∙ hz) in
          let zx : z.peer ≡ x = ap (λ (y : TrunkSide). y.peer) (sym sm) ∙ m.peer in
          let an : with_side_at n t (as_state v Up) ≡ a =
          same_Some (with_side_at n t (as_state v Up)) a
          (sym here ∙ ap (node_of (set_node w.nodes x (with_side_at n t (as_state v Up)))) (sym zx) ∙ ha) in
          let at : side_at a t ≡ Some (as_state v Up) = ap (λ y. side_at y t) (sym an) ∙ side_after_same n t (as_state v Up) in
          (ap went_up at, by_test _ (is_early z.state) (λ k. let c : true ≡ false = sym (ap holds_side at) ∙ (r.early k).0 in cc) (λ k. k))
        where
          gp2 : Good (record
              { names = w.names; nodes = set_node w.nodes x (with_side_at n t (as_state v Up)); lists = fm.insert w.lists (t, x) rest })
          gp2 = popped_after (as_state v Up)
              (good_acceptor_up w x n t v u hx h e (ap (has is_reply) first ∙ ap (λ b. b || has is_reply rest) got) g)
              (inr none)

          not_mine : t.dialer ≡ x → role_state (same_name t.dialer n.mint.name) v.state ≡ true → ⊥
          not_mine j f =
              let c : false
              ≡ true = sym (ap (λ b. role_state b v.state) (same_name_is t.dialer n.mint.name (j ∙ sym nx)) ∙ ap (role_state true) e)
              ∙ f in cc

module _ (w : World) (x : Name) (n : Node) (t : TrunkId) (v : TrunkSide) (rest : List Item) (hx : node_of w.nodes x ≡ Some n)
    (h : side_at n t ≡ Some v) (g : Good w) where
  abbrev Ends : Item → Outcome → Type 0
  Ends i o =
      list_to w.lists t x ≡ i ∷ rest → IfGoes o
      (λ p. Good (record { names = w.names; nodes = set_node w.nodes x p.node; lists = carried (fm.insert w.lists (t, x) rest) p.effects }))

  pub broken : (k : Fault) (i : Item) → Ends i (fault k t v (at_work n))
  broken k i e = good_fault w x n t v i rest hx h g e k

  pub unless : (b : Bool) (i : Item) (o : Outcome) (k : Fault) → (b ≡ true → Ends i o) → Ends i (cond b o (fault k t v (at_work n)))
  unless true i o k f e = f refl e
  unless false i o k f e = broken k i e

  pub good_awaits_status : (u : ℕ) → v.state ≡ AwaitsStatus u → (m : ShakeMsg) → Ends (Handshake m) (awaits_status t v u m (at_work n))
  good_awaits_status u s (ShakeMsg.Status Status.Ok) e =
      status_comes w x n t v (Handshake (ShakeMsg.Status Status.Ok)) rest hx h g e u s (λ p q. refl)
  good_awaits_status u s (ShakeMsg.Status Status.OkSimultaneous) e =
      status_comes w x n t v (Handshake (ShakeMsg.Status Status.OkSimultaneous)) rest hx h g e u s (λ p q. refl)
  good_awaits_status u s (ShakeMsg.Status Status.Alive) e =
      alive_comes w x n t v (Handshake (ShakeMsg.Status Status.Alive)) rest hx h g e u s (λ p q. refl)
  good_awaits_status u s (ShakeMsg.Status Status.Nok) e = broken (Fault.Shake ShakeFault.Nok) (Handshake (ShakeMsg.Status Status.Nok)) e
  good_awaits_status u s (ShakeMsg.Status Status.NotAllowed) e =
      broken (Fault.Shake ShakeFault.Nok) (Handshake (ShakeMsg.Status Status.NotAllowed)) e
  good_awaits_status u s m e = broken (Fault.Shake ShakeFault.BadMessage) (Handshake m) e

  pub good_awaits_reply : (u : ℕ) → v.state ≡ Accepting u → (m : ShakeMsg) → Ends (Handshake m) (awaits_reply t v u m (at_work n))
  good_awaits_reply u s (ShakeMsg.ChallengeReply k d) e =
      unless (is_answered n.cookie u d) (Handshake (ShakeMsg.ChallengeReply k d)) _ (Fault.Shake ShakeFault.BadDigest)
      (λ c f. reply_comes w x n t v (Handshake (ShakeMsg.ChallengeReply k d)) rest hx h g f u (digest_of n.cookie k) s refl (λ p q. refl)) e
  good_awaits_reply u s (ShakeMsg.Status Status.Ok) e = broken (Fault.Shake ShakeFault.BadMessage) (Handshake (ShakeMsg.Status Status.Ok)) e
  good_awaits_reply u s m e = broken (Fault.Shake ShakeFault.BadMessage) (Handshake m) e

-- a side is lost by a call
pub good_lose : (w : World) (x : Name) (n : Node) (t : TrunkId) (v : TrunkSide) → node_of w.nodes x ≡ Some n
    → side_at n t ≡ Some v → Good w → Good ((came_of w x w.lists (lose_at v.state t v (at_work n))).world)
good_lose w x n t v hx h g = go v.state refl
  where
    one : (a : State) → v.state ≡ a
        → Good (record { names = w.names; nodes = set_node w.nodes x (with_side_at n t (as_state v (lost a))); lists = w.lists })
    one a e =
        subst
        (λ z. Good (record { names = w.names; nodes = set_node w.nodes x (with_side_at n t (as_state v (lost z))); lists = w.lists })) e
        (good_lost w x n t v hx h g)

    go : (a : State) → v.state ≡ a → Good ((came_of w x w.lists (lose_at a t v (at_work n))).world)
    go Losing e = g
    go Gone e = g
    go a e = one a e
