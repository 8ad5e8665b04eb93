-- The events of the handshake.
use Rattle.std.proofs.Common.{◌≡◌, ℕ, Bool, true, false, refl, sym, ap, ◌∙◌, subst, ◌&&◌, ◌||◌, Option, Some, ◌⊎◌, inl, inr}
use Rattle.std.proofs.lemmas.Option.{same_Some}
use Rattle.dist_model.proofs.Calls.{by_test}
use Rattle.dist_model.proofs.Keys.{same_name_is, same_name_true}
use Rattle.dist_model.proofs.Pairs.{WorldKept}
use Rattle.dist_model.proofs.Primitives.{good_resided}
use Rattle.dist_model.proofs.SideChanges.{Fits, accepts_up, comes_up, drops, replies_to, with_side_at}
use Rattle.dist_model.proofs.Routes.{node_of_name}
use Rattle.dist_model.proofs.Sides.{SidesKept, asks, beside, holds, joined, side_at, beside_neither}
use Rattle.dist_model.proofs.Trunks.{Good, Row, has, holds_side, is_accept, is_early, is_reply, likely_kind}
use Rattle.dist_model.proofs.Trunks.{may_be_up, not_begun_not_went, not_holds_not_up, role_state, up_once, went_up}
use Rattle.dist_model.specs.Items.{news}
use Rattle.dist_model.specs.Names.{Name, same_name}
use Rattle.dist_model.specs.Node.{Node, end_of}
use Rattle.dist_model.specs.Sides.{Accepting, AwaitsAck, AwaitsChallenge, AwaitsStatus, Gone}
use Rattle.dist_model.specs.Sides.{Losing, State, TrunkSide, Up, is_gone, is_up, lost, introduction_in}
use Rattle.dist_model.specs.World.{World, list_to, node_of, set_node}
use Rattle.erl_names.specs.declared.trunk.TrunkId.{TrunkId}
use Rattle.erl_term.specs.declared.term.Pid.{Pid}
use Rattle.link_core.specs.declared.end.End.{End}

role_kept : (t : TrunkId) (x y z : Name) → y ≡ z → (t.dialer ≡ x) ⊎ (t.dialer ≡ y) → (t.dialer ≡ x) ⊎ (t.dialer ≡ z)
role_kept t x y z e (inl i) = inl i
role_kept t x y z e (inr i) = inr (i ∙ e)

-- a side of n that gets another state
pub fits_state : (n : Node) (t : TrunkId) (v s : TrunkSide) → SidesKept n → side_at n t ≡ Some v → v.peer ≡ s.peer → is_gone v.state ≡ false
    → ((b : State) → beside v.state b ≡ true → beside s.state b ≡ true) → (holds v.state ≡ true → holds s.state ≡ false → ⊥) → Fits n t s
fits_state n t v s k h e ng mono hold = record {
  stranger = λ i. k.other t v h (e ∙ i);
  role = role_kept t n.mint.name v.peer s.peer e (k.mine t v h);
  peer_stays = λ u hu. ap (λ (z : TrunkSide). z.peer) (same_Some u v (sym hu ∙ h)) ∙ e;
  room = λ u b hb eb d gs gb. pick u b d (k.one t u v b h hb (e ∙ sym eb) ng gb);
  empty = λ u hu hh nh p q i. absurd (hold (ap (λ (z : TrunkSide). holds z.state) (same_Some v u (sym h ∙ hu)) ∙ hh) nh);
}
  where
    pick : (u : TrunkId) (b : TrunkSide) → (u ≡ t → ⊥) → (t ≡ u) ⊎ (beside v.state b.state ≡ true) → beside s.state b.state ≡ true
    pick u b d (inl i) = absurd (d (sym i))
    pick u b d (inr i) = mono b.state i

-- one that stands beside none
fits_alone : (n : Node) (t : TrunkId) (v s : TrunkSide) → SidesKept n → side_at n t ≡ Some v → v.peer ≡ s.peer → is_gone v.state ≡ false
    → holds v.state ≡ false → asks v.state ≡ false → Fits n t s
fits_alone n t v s k h e ng nh na =
    fits_state n t v s k h e ng (λ b i. absurd (beside_neither v.state b nh na i)) (λ i j. let c : true ≡ false = sym i ∙ nh in cc)

pub fits_gone : (n : Node) (t : TrunkId) (v s : TrunkSide) → SidesKept n → side_at n t ≡ Some v → v.peer ≡ s.peer → is_gone s.state ≡ true
    → (holds v.state ≡ true → (p q : Pid) → q.node ≡ s.peer → end_of n p q ≡ End.None) → Fits n t s
fits_gone n t v s k h e gone hold = record {
  stranger = λ i. k.other t v h (e ∙ i);
  role = role_kept t n.mint.name v.peer s.peer e (k.mine t v h);
  peer_stays = λ u hu. ap (λ (z : TrunkSide). z.peer) (same_Some u v (sym hu ∙ h)) ∙ e;
  room = λ u b hb eb d gs gb. let c : true ≡ false = sym gone ∙ gs in cc;
  empty = λ u hu hh nh p q i. hold (ap (λ (z : TrunkSide). holds z.state) (same_Some v u (sym h ∙ hu)) ∙ hh) p q i;
}

-- the rows on which a side of x stands
abbrev pub RowsKeep : World → Name → TrunkId → TrunkSide → TrunkSide → Type 0
RowsKeep w x t v s =
    ((a : Option TrunkSide) → t.dialer ≡ x → Row v.state a (list_to w.lists t t.dialer) (list_to w.lists t s.peer)
    → Row s.state a (list_to w.lists t t.dialer) (list_to w.lists t s.peer))
    × ((d : State) (y : Name) → y ≡ x → (t.dialer ≡ x → ⊥) → Row d (Some v) (list_to w.lists t t.dialer) (list_to w.lists t y)
    → Row d (Some s) (list_to w.lists t t.dialer) (list_to w.lists t y))
    × (may_be_up s.state (list_to w.lists t x) ≡ true → (a : Node) → node_of w.nodes s.peer ≡ Some a
    → may_be_up v.state (list_to w.lists t x) ≡ true)

-- an old side in a new state
pub good_state : (w : World) (x : Name) (n : Node) (t : TrunkId) (v s : TrunkSide) → node_of w.nodes x ≡ Some n
    → side_at n t ≡ Some v → v.peer ≡ s.peer → Fits n t s → Good w
    → WorldKept (record { names = w.names; nodes = set_node w.nodes x (with_side_at n t s); lists = w.lists })
    → role_state (same_name t.dialer n.mint.name) s.state ≡ true → RowsKeep w x t v s
    → Good (record { names = w.names; nodes = set_node w.nodes x (with_side_at n t s); lists = w.lists })
good_state w x n t v s hx h e f g core role rows = good_resided w x n t s hx f g core role (λ i. (g.home x n hx).counts t v h i)
    (λ a di ha. rows.0 (side_at a t) di
    (subst (λ y. Row v.state (side_at a t) (list_to w.lists t t.dialer) (list_to w.lists t y)) e
    (g.table t n a v (ap (node_of w.nodes) di ∙ hx) h (ap (node_of w.nodes) e ∙ ha))))
    (λ d u hd fu ux. rows.1 u.state u.peer ux
    (λ di.
    let dn : d ≡ n = same_Some d n (sym hd ∙ ap (node_of w.nodes) di ∙ hx) in
    let uv : u ≡ v = same_Some u v (sym fu ∙ ap (λ z. side_at z t) dn ∙ h) in
    (g.core.sides x n hx).other t v h (ap (λ (z : TrunkSide). z.peer) (sym uv) ∙ ux ∙ sym (node_of_name w.nodes x n hx)))
    (subst (λ o. Row u.state o (list_to w.lists t t.dialer) (list_to w.lists t u.peer)) h
    (g.table t d n u hd fu (ap (node_of w.nodes) ux ∙ hx))))
    (λ m a ha. record { node = n; at = hx; side = v; there = h; peer = e; may = rows.2 m a ha })

-- a side that is lost
pub lost_joined : (v : State) → joined (lost v) ≡ false
lost_joined (AwaitsStatus w) = refl
lost_joined _ = refl

lost_kind : (v : State) → ((is_gone (lost v) ≡ true) × (is_gone v ≡ false) × (holds v ≡ false))
    ⊎ ((is_gone v ≡ true) × (lost v ≡ v)) ⊎ ((holds v ≡ true) × (lost v ≡ Losing))
lost_kind Up = inr (inr (refl, refl))
lost_kind Losing = inr (inr (refl, refl))
lost_kind Gone = inr (inl (refl, refl))
lost_kind _ = inl (refl, refl, refl)

pub gone_kind : (v : State) → is_gone v ≡ true → (holds v ≡ false) × (is_early v ≡ false) × (up_once v ≡ true) × (joined v ≡ false)
gone_kind Gone h = (refl, refl, refl, refl)
gone_kind _ h = cc

pub hold_kind : (v : State) → holds v ≡ true → (is_early v ≡ false) × (up_once v ≡ true) × (asks v ≡ false) × (is_gone v ≡ false)
hold_kind Up h = (refl, refl, refl, refl)
hold_kind Losing h = (refl, refl, refl, refl)
hold_kind _ h = cc

pub rows_gone : (w : World) (x : Name) (t : TrunkId) (v s : TrunkSide) → is_gone s.state ≡ true → RowsKeep w x t v s
rows_gone w x t v s e =
    let k = gone_kind s.state e in (
      λ a di r. record {
        before = λ h. let b = r.before h in (k.0, b.1, b.2, b.3);
        early = λ h. let c : true ≡ false = sym h ∙ k.1 in cc;
        waits = r.waits;
      },
      λ d y yx nd r. record {
        before = λ h. let c : true ≡ false = sym k.2 ∙ h in cc;
        early = λ h. let b = r.early h in
            (k.0, b.1, b.2);
        waits = λ h. let c : true ≡ false = sym k.2 ∙ not_begun_not_went (Some s) h in cc;
      },
      λ m a ha. let c : true ≡ false = sym e ∙ (likely_kind s.state _ m).0 in cc,
    )

rows_hold : (w : World) (x : Name) (t : TrunkId) (v s : TrunkSide) → holds v.state ≡ true → holds s.state ≡ true
    → s.state ≡ Losing → RowsKeep w x t v s
rows_hold w x t v s hv hs lo =
    let k = hold_kind s.state hs in (
      λ a di r. record {
        before = λ h. let b = r.before h in let c : true ≡ false = sym hv ∙ b.0 in cc;
        early = λ h. let c : true ≡ false = sym h ∙ k.0 in cc;
        waits = r.waits;
      },
      λ d y yx nd r. record {
        before = λ h. let c : true ≡ false = sym k.1 ∙ h in cc;
        early = λ h. let b = r.early h in
            let c : true ≡ false = sym hv ∙ b.0 in cc;
        waits = λ h. let c : true ≡ false = sym k.1 ∙ not_begun_not_went (Some s) h in cc;
      },
      λ m a ha. let c : false ≡ true = ap (λ z. may_be_up z (list_to w.lists t x)) (sym lo) ∙ m in cc,
    )

pub role_lost : (b : Bool) (v : State) → role_state b (lost v) ≡ true
role_lost true (AwaitsStatus w) = refl
role_lost false (AwaitsStatus w) = refl
role_lost _ _ = refl

pub hold_beside : (a b c : State) → holds a ≡ true → holds c ≡ true → beside a b ≡ true → beside c b ≡ true
hold_beside a b c ha hc h = go (holds a) (asks b) (asks a) (holds b) ((hold_kind a ha).2) (holds c) hc (asks c) h
  where
    go : (p q r s : Bool) → r ≡ false → (u : Bool) → u ≡ true → (v : Bool) → ((p && q) || (r && s)) ≡ true → ((u && q) || (v && s)) ≡ true
    go true true false s hr true hu v h = refl
    go true false false s hr true hu v h = cc
    go false q false s hr true hu v h = cc
    go _ _ _ s hr _ hu v h = cc

abbrev pub as_state : TrunkSide → State → TrunkSide
as_state s v = record { peer = s.peer; introduction = introduction_in v s.introduction; state = v }

abbrev pub in_state : World → Name → Node → TrunkId → TrunkSide → World
in_state w x n t s = record { names = w.names; nodes = set_node w.nodes x (with_side_at n t s); lists = w.lists }

-- a side that is lost
pub good_lost : (w : World) (x : Name) (n : Node) (t : TrunkId) (v : TrunkSide) → node_of w.nodes x ≡ Some n
    → side_at n t ≡ Some v → Good w → Good (in_state w x n t (as_state v (lost v.state)))
good_lost w x n t v hx h g = go (lost_kind v.state)
  where
    build : Fits n t (as_state v (lost v.state)) → RowsKeep w x t v (as_state v (lost v.state))
        → Good (in_state w x n t (as_state v (lost v.state)))
    build f r =
        good_state w x n t v (as_state v (lost v.state)) hx h refl f g
        (drops w x n t v (as_state v (lost v.state)) hx h refl (lost_joined v.state) f g.core) (role_lost _ v.state) r

    go : ((is_gone (lost v.state) ≡ true) × (is_gone v.state ≡ false) × (holds v.state ≡ false))
        ⊎ ((is_gone v.state ≡ true) × (lost v.state ≡ v.state)) ⊎ ((holds v.state ≡ true) × (lost v.state ≡ Losing))
        → Good (in_state w x n t (as_state v (lost v.state)))
    go (inl k) =
        build
        (fits_gone n t v (as_state v (lost v.state)) (g.core.sides x n hx) h refl k.0 (λ i p q e. let c : true ≡ false = sym i ∙ k.2 in cc))
        (rows_gone w x t v (as_state v (lost v.state)) k.0)
    go (inr (inl k)) =
        let gs : is_gone (lost v.state) ≡ true = ap is_gone k.1 ∙ k.0 in
        build (fits_gone n t v (as_state v (lost v.state)) (g.core.sides x n hx) h refl gs
        (λ i p q e. let c : true ≡ false = sym i ∙ (gone_kind v.state k.0).0 in cc)) (rows_gone w x t v
        (as_state v (lost v.state)) gs)
    go (inr (inr k)) =
        let hs : holds (lost v.state) ≡ true = ap holds k.1 in
        build (fits_state n t v (as_state v (lost v.state)) (g.core.sides x n hx) h refl ((hold_kind v.state k.0).3)
        (λ b i. hold_beside v.state b (lost v.state) k.0 hs i) (λ i j. let c : true ≡ false = sym hs ∙ j in cc))
        (rows_hold w x t v (as_state v (lost v.state)) k.0 hs k.1)

-- the dialer goes on
pub role_is : (b : Bool) (v s : State) → role_state b v ≡ true → role_state false v ≡ false → role_state true s ≡ true
    → role_state b s ≡ true
role_is true v s h n k = k
role_is false v s h n k = let c : true ≡ false = sym h ∙ n in cc

role_is_dialer : (b : Bool) (v : State) → role_state b v ≡ true → role_state false v ≡ false → b ≡ true
role_is_dialer true v h n = refl
role_is_dialer false v h n = let c : true ≡ false = sym h ∙ n in cc

pub role_is_acceptor : (b : Bool) (v : State) → role_state b v ≡ true → role_state true v ≡ false → b ≡ false
role_is_acceptor false v h n = refl
role_is_acceptor true v h n = let c : true ≡ false = sym h ∙ n in cc

pub good_awaits_challenge : (w : World) (x : Name) (n : Node) (t : TrunkId) (v : TrunkSide) (u : ℕ)
    → node_of w.nodes x ≡ Some n → side_at n t ≡ Some v → v.state ≡ AwaitsStatus u → Good w
    → Good (in_state w x n t (as_state v (AwaitsChallenge u)))
good_awaits_challenge w x n t v u hx h e g =
    let f = fits_alone n t v (as_state v (AwaitsChallenge u)) (g.core.sides x n hx) h refl (ap is_gone e) (ap holds e) (ap asks e) in
    good_state w x n t v (as_state v (AwaitsChallenge u)) hx h refl f g
    (drops w x n t v (as_state v (AwaitsChallenge u)) hx h refl refl f g.core)
    (role_is _ v.state (AwaitsChallenge u) ((g.home x n hx).roles t v h) (ap (role_state false) e) refl) (
      λ a di r. record { before = λ k. let b = r.before k in (refl, b.1, b.2, b.3); early = λ k. r.early (ap is_early e); waits = r.waits },
      λ d y yx nd r. record { before = λ k. r.before (ap up_once e); early = λ k. let b = r.early k in (refl, b.1, b.2); waits = λ k. cc },
      λ m a ha. cc,
    )

-- the acceptor's side of a trunk that x dialed isn't up before x replied
pub good_awaits_ack : (w : World) (x : Name) (n : Node) (t : TrunkId) (v s : TrunkSide) (u : ℕ) → node_of w.nodes x ≡ Some n
    → side_at n t ≡ Some v → v.state ≡ AwaitsChallenge u → v.peer ≡ s.peer → s.state ≡ AwaitsAck u → Good w
    → Good (in_state w x n t s)
good_awaits_ack w x n t v s u hx h e pe se g =
    let f = fits_alone n t v s (g.core.sides x n hx) h pe (ap is_gone e) (ap holds e) (ap asks e) in
    let rl = (g.home x n hx).roles t v h in
    let di : t.dialer ≡ x =
    same_name_true t.dialer n.mint.name (role_is_dialer _ v.state rl (ap (role_state false) e)) ∙ node_of_name w.nodes x n hx in
    good_state w x n t v s hx h pe f g
    (replies_to w x n t v s hx h pe (ap is_up se)
    (λ z b a hb fb vz.
    let r = g.table t n b v (ap (node_of w.nodes) di ∙ hx) h (ap (node_of w.nodes) vz ∙ hb) in
    not_holds_not_up a.state (sym (ap holds_side fb) ∙ (r.early (ap is_early e)).0)) f g.core)
    (role_is _ v.state s.state rl (ap (role_state false) e) (ap (role_state true) se)) (
      λ a di r. record {
        before = λ k. let b = r.before k in (ap holds se, b.1, b.2, b.3);
        early = λ k. let c : true ≡ false = sym k ∙ ap is_early se in cc;
        waits = r.waits;
      },
      λ d y yx nd r. absurd (nd di),
      λ m a ha.
          let r = g.table t n a v (ap (node_of w.nodes) di ∙ hx) h (ap (node_of w.nodes) pe ∙ ha) in
          let c : false ≡ true =
          sym (r.early (ap is_early e)).2 ∙ ap (λ z. has is_accept (list_to w.lists t z)) di
          ∙ sym (ap (λ z. may_be_up z (list_to w.lists t x)) se) ∙ m in cc,
    )

-- the acceptance has come
acceptor_up : (v : State) → role_state false v ≡ true → joined v ≡ true → is_up v ≡ true
acceptor_up Up h j = refl
acceptor_up _ h j = cc

pub good_dialer_up : (w : World) (x : Name) (n : Node) (t : TrunkId) (v : TrunkSide) (u : ℕ) → node_of w.nodes x ≡ Some n
    → side_at n t ≡ Some v → v.state ≡ AwaitsAck u → has is_accept (list_to w.lists t x) ≡ true → Good w
    → Good (in_state w x n t (as_state v Up))
good_dialer_up w x n t v u hx h e got g =
    let f = fits_alone n t v (as_state v Up) (g.core.sides x n hx) h refl (ap is_gone e) (ap holds e) (ap asks e) in
    let rl = (g.home x n hx).roles t v h in
    let nx : n.mint.name ≡ x = node_of_name w.nodes x n hx in
    let di : t.dialer ≡ x = same_name_true t.dialer n.mint.name (role_is_dialer _ v.state rl (ap (role_state false) e)) ∙ nx in
    good_state w x n t v (as_state v Up) hx h refl f g
    (comes_up w x n t v (as_state v Up) hx h refl (ap joined e) (ap is_up e)
    (λ z b a hb fb vz j.
    let other : same_name t.dialer b.mint.name ≡ false = by_test _ (same_name t.dialer b.mint.name)
    (λ i. absurd ((g.core.sides x n hx).other t v h
    (vz ∙ sym (node_of_name w.nodes z b hb) ∙ sym (same_name_true t.dialer b.mint.name i) ∙ di ∙ sym nx))) (λ i. i) in
    acceptor_up a.state (ap (λ c. role_state c a.state) (sym other) ∙ (g.home z b hb).roles t a fb) j) f g.core)
    (role_is _ v.state Up rl (ap (role_state false) e) refl) (
      λ a di2 r. record {
        before = λ k. let b = r.before k in
            let c : true ≡ false = sym got ∙ ap (λ z. has is_accept (list_to w.lists t z)) (sym di) ∙ b.1 in cc;
        early = λ k. cc;
        waits = r.waits;
      },
      λ d y yx nd r. absurd (nd di),
      λ m a ha. ap (λ z. may_be_up z (list_to w.lists t x)) e ∙ got,
    )

-- the reply was right
pub good_acceptor_up : (w : World) (x : Name) (n : Node) (t : TrunkId) (v : TrunkSide) (u : ℕ) → node_of w.nodes x ≡ Some n
    → side_at n t ≡ Some v → v.state ≡ Accepting u → has is_reply (list_to w.lists t x) ≡ true → Good w
    → Good (in_state w x n t (as_state v Up))
good_acceptor_up w x n t v u hx h e got g =
    let f = fits_alone n t v (as_state v Up) (g.core.sides x n hx) h refl (ap is_gone e) (ap holds e) (ap asks e) in
    let rl = (g.home x n hx).roles t v h in
    let nx : n.mint.name ≡ x = node_of_name w.nodes x n hx in
    let nd : t.dialer ≡ x → ⊥ =
    λ i. let c : true ≡ false = sym (same_name_is t.dialer n.mint.name (i ∙ sym nx))
    ∙ role_is_acceptor _ v.state rl (ap (role_state true) e) in cc in
    let m = g.core.met x n t v hx h nd in
    let r0 : Row m.side.state (side_at n t) (list_to w.lists t t.dialer) (list_to w.lists t m.side.peer) =
    g.table t m.dialer n m.side m.at m.there (ap (node_of w.nodes) m.peer ∙ hx) in
    let b0 = r0.before (ap went_up h ∙ ap up_once e) in
    let vd : t.dialer ≡ v.peer = dialer_is ((g.core.sides x n hx).mine t v h) (λ i. nd (i ∙ nx)) in
    good_state w x n t v (as_state v Up) hx h refl f g
    (accepts_up w x n t v (as_state v Up) hx h refl (ap is_gone e) (ap holds e) (ap asks e)
    (λ p q. ap (λ z. news p q (list_to w.lists t z)) (sym m.peer) ∙ b0.3 p q)
    (λ p q. ap (λ z. news p q (list_to w.lists t z)) (sym vd) ∙ b0.2 p q)
    (λ z b a hb fb vz j.
    let same : m.dialer ≡ b = same_Some m.dialer b (sym m.at ∙ ap (node_of w.nodes) (vd ∙ vz) ∙ hb) in
    let same2 : m.side ≡ a = same_Some m.side a (sym m.there ∙ ap (λ y. side_at y t) same ∙ fb) in
    not_holds_not_up a.state (ap (λ (y : TrunkSide). holds y.state) (sym same2) ∙ b0.0)) f g.core)
    (role_up (same_name t.dialer n.mint.name)) (
      λ a di r. absurd (nd di),
      λ d y yx nd2 r. record {
        before = λ k. cc;
        early = λ k. let b = r.early k in
            let c : true ≡ false = sym got ∙ ap (λ z. has is_reply (list_to w.lists t z)) (sym yx) ∙ b.1 in cc;
        waits = λ k. cc;
      },
      λ m a ha. ap (λ z. may_be_up z (list_to w.lists t x)) e ∙ got,
    )
  where
    dialer_is : (t.dialer ≡ n.mint.name) ⊎ (t.dialer ≡ v.peer) → (t.dialer ≡ n.mint.name → ⊥) → t.dialer ≡ v.peer
    dialer_is (inl i) k = absurd (k i)
    dialer_is (inr i) k = i

    role_up : (b : Bool) → role_state b Up ≡ true
    role_up true = refl
    role_up false = refl
