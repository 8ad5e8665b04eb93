-- A fresh side gets its first message.
use Rattle.std.proofs.Common.{◌≡◌, ℕ, Bool, true, false, cond, List, [], ◌∷◌, refl, sym}
use Rattle.std.proofs.Common.{ap, ◌∙◌, subst, ◌&&◌, ◌||◌, Some, None, ◌⊎◌, inl, inr}
use Rattle.std.proofs.lemmas.Option.{same_Some}
use Rattle.std.specs.Option.{is_some}
use Rattle.std.specs.FinMap as fm
use Rattle.dist_model.proofs.Calls.{by_test}
use Rattle.dist_model.proofs.ClosedSides.{good_written, placed, placed_state, placed_write}
use Rattle.dist_model.proofs.Handshake.{as_state, good_lost, hold_kind, in_state}
use Rattle.dist_model.proofs.Keys.{same_name_is, same_trunk, same_trunk_is, same_trunk_true}
use Rattle.dist_model.proofs.NewSides.{good_new}
use Rattle.dist_model.proofs.Pairs.{Met}
use Rattle.dist_model.proofs.SideChanges.{side_after_other, side_after_same, with_side_at}
use Rattle.dist_model.proofs.Routes.{node_of_name, node_of_set_same, side_where_none}
use Rattle.dist_model.proofs.Sides.{SidesKept, asks, beside, holds, joined, side_at, asks_waits, unheld_beside}
use Rattle.dist_model.proofs.Steps.{kind}
use Rattle.dist_model.proofs.Trunks.{Good, is_accept, is_challenge, is_reply, role_state, up_once}
use Rattle.dist_model.specs.Admission.{give_up}
use Rattle.dist_model.specs.Handshake.{challenge, set_state, write}
use Rattle.dist_model.specs.Items.{Handshake}
use Rattle.dist_model.specs.Names.{Name, same_name}
use Rattle.dist_model.specs.Node.{Node, side_where}
use Rattle.dist_model.specs.Sides.{Accepting, Asked, AwaitsAck, AwaitsChallenge, AwaitsStatus, Gone, Losing}
use Rattle.dist_model.specs.Sides.{Parked, State, TrunkSide, Up, is_dialing, is_gone, is_waiting, lost}
use Rattle.dist_model.specs.Work.{Work}
use Rattle.dist_model.specs.World.{World, node_of, set_node}
use Rattle.erl_handshake.specs.declared.message.ShakeMsg.{ShakeMsg}
use Rattle.erl_handshake.specs.declared.status.Status.{Status}
use Rattle.erl_names.specs.declared.trunk.TrunkId.{TrunkId}
use Rattle.erl_handshake.specs.declared.introduction.Introduction.{Introduction}

pub set_self : (ns : List Node) (x : Name) (n : Node) → node_of ns x ≡ Some n → set_node ns x n ≡ ns
set_self [] x n h = refl
set_self (m ∷ ns) x n h =
    elim (same_name m.mint.name x) as
    (λ b. cond b (Some m) (node_of ns x) ≡ Some n → cond b (n ∷ ns) (m ∷ set_node ns x n) ≡ m ∷ ns)
    [ true ↦ λ i. ap (λ z. z ∷ ns) (sym (same_Some m n i)) | false ↦ λ i. ap (λ l. m ∷ l) (set_self ns x n i) ] h

-- no side towards y passes the test
abbrev pub NoneIs : (State → Bool) → Name → Node → Type 0
NoneIs test y m = (u : TrunkId) (b : TrunkSide) → side_at m u ≡ Some b → b.peer ≡ y → test b.state ≡ false

pub none_is : (test : State → Bool) (y : Name) (m : Node) → side_where test y (fm.entries m.sides) ≡ None → NoneIs test y m
none_is test y m h u b f e = side_where_none test y (fm.entries m.sides) u b h (sym (fm.get-entries m.sides u) ∙ f) e

pub waits_kind : (v : State) → is_waiting v ≡ true → (holds v ≡ false) × (is_gone v ≡ false)
waits_kind (Asked w) h = (refl, refl)
waits_kind (Parked w) h = (refl, refl)
waits_kind (Accepting w) h = (refl, refl)
waits_kind _ h = cc

pub dials_kind : (v : State) → is_dialing v ≡ true → (holds v ≡ false) × (is_gone v ≡ false) × (asks v ≡ false)
dials_kind (AwaitsStatus w) h = (refl, refl, refl)
dials_kind (AwaitsChallenge w) h = (refl, refl, refl)
dials_kind (AwaitsAck w) h = (refl, refl, refl)
dials_kind _ h = cc

-- each that isn't gone is of one of three kinds
gone_or : (v : State) → is_waiting v ≡ false → is_dialing v ≡ false → holds v ≡ false → is_gone v ≡ true
gone_or Gone a b c = refl
gone_or _ a b c = cc

-- the first of a kind is given up
module _ (w : World) (x : Name) (n : Node) (hx : node_of w.nodes x ≡ Some n) where
  pub at_x : (o : Work) → o.node.mint.name ≡ x → node_of (placed w x o).nodes x ≡ Some o.node
  at_x o e = node_of_set_same w.nodes x n o.node hx e

  -- a side that doesn't hold is given up
  pub given : (o : Work) (d : TrunkId × TrunkSide) → o.node.mint.name ≡ x → side_at o.node d.0 ≡ Some d.1
      → holds d.1.state ≡ false → Good (placed w x o) → Good (placed w x (give_up (Some d) o))
  given o d e h nh g = placed_state w x o d.0 (as_state d.1 Gone) e
      (subst (λ z. Good (in_state (placed w x o) x o.node d.0 (as_state d.1 z))) (lost_is d.1.state nh)
      (good_lost (placed w x o) x o.node d.0 d.1 (at_x o e) h g))
    where
      lost_is : (v : State) → holds v ≡ false → lost v ≡ Gone
      lost_is Up i = cc
      lost_is Losing i = cc
      lost_is _ i = refl

  -- what it leaves
  pub left_over : (m : Node) (d : TrunkId × TrunkSide) (u : TrunkId) (b : TrunkSide)
      → side_at (with_side_at m d.0 (as_state d.1 Gone)) u ≡ Some b → (b.state ≡ Gone)
      ⊎ ((u ≡ d.0 → ⊥) × (side_at m u ≡ Some b))
  left_over m d u b f = by_test _ (same_trunk u d.0)
      (λ i.
      let e : u ≡ d.0 = same_trunk_true u d.0 i in
      let s : as_state d.1 Gone ≡ b =
      same_Some (as_state d.1 Gone) b
      (sym (side_after_same m d.0 (as_state d.1 Gone)) ∙ ap (side_at (with_side_at m d.0 (as_state d.1 Gone))) (sym e) ∙ f) in
      inl (ap (λ (z : TrunkSide). z.state) (sym s)))
      (λ i.
      let e : u ≡ d.0 → ⊥ = λ j. let c : true ≡ false = sym (same_trunk_is u d.0 j) ∙ i in cc in
      inr (e, sym (side_after_other m d.0 (as_state d.1 Gone) u e) ∙ f))

  pub still_none : (test : State → Bool) (y : Name) (m : Node) (d : TrunkId × TrunkSide) → test Gone ≡ false → NoneIs test y m
      → NoneIs test y (with_side_at m d.0 (as_state d.1 Gone))
  still_none test y m d t k u b f e = pick (left_over m d u b f)
    where
      pick : (b.state ≡ Gone) ⊎ ((u ≡ d.0 → ⊥) × (side_at m u ≡ Some b)) → test b.state ≡ false
      pick (inl i) = ap test i ∙ t
      pick (inr i) = k u b i.1 e

  pub none_left : (test : State → Bool) (y : Name) (m : Node) (d : TrunkId × TrunkSide) → SidesKept m
      → side_at m d.0 ≡ Some d.1 → d.1.peer ≡ y → test d.1.state ≡ true → test Gone ≡ false
      → ((v : State) → test v ≡ true → (holds v ≡ false) × (is_gone v ≡ false)) → NoneIs test y (with_side_at m d.0 (as_state d.1 Gone))
  none_left test y m d sk hd yd td tg kind u b f e = pick (left_over m d u b f)
    where
      crowd : (d.0 ≡ u) ⊎ (beside d.1.state b.state ≡ true) → (u ≡ d.0 → ⊥) → test b.state ≡ true → ⊥
      crowd (inl i) k t = k (sym i)
      crowd (inr i) k t = unheld_beside d.1.state b.state (kind d.1.state td).0 (kind b.state t).0 i

      pick : (b.state ≡ Gone) ⊎ ((u ≡ d.0 → ⊥) × (side_at m u ≡ Some b)) → test b.state ≡ false
      pick (inl i) = ap test i ∙ tg
      pick (inr i) =
          by_test _ (test b.state)
          (λ t. absurd (crowd (sk.one d.0 u d.1 b hd i.1 (yd ∙ sym e) (kind d.1.state td).1 (kind b.state t).1) i.0 t))
          (λ t. t)

  module _ (t : TrunkId) (c : Introduction) (far : same_name t.dialer n.mint.name ≡ false) (dialer : Met w.nodes t x) where
    abbrev s : TrunkSide
    s = record { peer = t.dialer; introduction = c; state = Gone }

    -- a fresh side in its first state
    pub first_state : (o : Work) (v : State) → o.node.mint.name ≡ x → side_at o.node t ≡ None → joined v ≡ false
        → role_state false v ≡ true → (up_once v ≡ false) ⊎ (is_gone v ≡ true) → holds v ≡ false
        → ((u : TrunkId) (b : TrunkSide) → side_at o.node u ≡ Some b → b.peer ≡ t.dialer → is_gone v ≡ false
        → is_gone b.state ≡ false → beside v b.state ≡ true)
        → Met (placed w x o).nodes t x → Good (placed w x o) → Good (placed w x (set_state t s v o))
    first_state o v e none j role kind hold room met g =
        let apart : same_name t.dialer o.node.mint.name ≡ false = ap (same_name t.dialer) (e ∙ sym (node_of_name w.nodes x n hx)) ∙ far in
        placed_state w x o t (as_state s v) e
        (good_new (placed w x o) x o.node t (as_state s v) (at_x o e) none
        (record {
          stranger = λ i. let k : true ≡ false = sym (same_name_is t.dialer o.node.mint.name i) ∙ apart in cc;
          role = inr refl;
          peer_stays = λ u hu. let k : false ≡ true = sym (ap is_some none) ∙ ap is_some hu in cc;
          room = λ u b hb eb d gs gb. room u b hb eb gs gb;
          empty = λ u hu hh nh p q i. let k : false ≡ true = sym (ap is_some none) ∙ ap is_some hu in cc;
        })
        (λ d. met) j (ap (λ b. role_state b v) apart ∙ role)
        (λ i. let k : true ≡ false = sym (same_name_is t.dialer o.node.mint.name i) ∙ apart in absurd (let z : true ≡ false = k in cc))
        (λ i. hold) kind hold g)

    -- and an answer to the dialer
    pub answer : (o : Work) (v : State) (m : ShakeMsg) → o.node.mint.name ≡ x → side_at o.node t ≡ Some (as_state s v)
        → is_accept (Handshake m) ≡ false → is_reply (Handshake m) ≡ false
        → (is_challenge (Handshake m) ≡ true → (k : ℕ) × (v ≡ Accepting k)) → Good (placed w x o)
        → Good (placed w x (write t t.dialer m o))
    answer o v m e h na nr ch g =
        placed_write w x o t t.dialer m (good_written (placed w x o) x o.node t (as_state s v) m (at_x o e) h na nr ch g)

    pub accepted : (o : Work) (k : ℕ) (m : ShakeMsg) → o.node.mint.name ≡ x → side_at o.node t ≡ None
        → is_accept (Handshake m) ≡ false → is_reply (Handshake m) ≡ false
        → NoneIs is_waiting t.dialer o.node → NoneIs is_dialing t.dialer o.node → NoneIs holds t.dialer o.node
        → Met (placed w x o).nodes t x → Good (placed w x o)
        → Good (placed w x (write t t.dialer (challenge o.node k) (write t t.dialer m (set_state t s (Accepting k) o))))
    accepted o k m e none na nr nw nd nh met g =
        let o1 = set_state t s (Accepting k) o in
        let g1 = first_state o (Accepting k) e none refl refl (inl refl) refl
        (λ u b hb eb gs gb. let z : true ≡ false = sym (gone_or b.state (nw u b hb eb) (nd u b hb eb) (nh u b hb eb)) ∙ gb in
        absurd (let y : true ≡ false = z in cc)) met g in
        let h1 : side_at o1.node t ≡ Some (as_state s (Accepting k)) = side_after_same o.node t (as_state s (Accepting k)) in
        answer (write t t.dialer m o1) (Accepting k) (challenge o.node k) e h1 refl refl (λ j. (k, refl))
        (answer o1 (Accepting k) m e h1 na nr (λ j. (k, refl)) g1)

    pub refused_one : (o : Work) → o.node.mint.name ≡ x → side_at o.node t ≡ None → Met (placed w x o).nodes t x
        → Good (placed w x o) → Good (placed w x (write t t.dialer (ShakeMsg.Status Status.Nok) (set_state t s Gone o)))
    refused_one o e none met g =
        let g1 = first_state o Gone e none refl refl (inr refl) refl (λ u b hb eb gs gb. let z : true ≡ false = gs in cc) met g in
        answer (set_state t s Gone o) Gone (ShakeMsg.Status Status.Nok) e
        (side_after_same o.node t (as_state s Gone)) refl refl (λ j. absurd (let z : false ≡ true = j in cc)) g1

    pub told_alive : (o : Work) (k : ℕ) (d : TrunkId × TrunkSide) → o.node.mint.name ≡ x → side_at o.node t ≡ None
        → side_at o.node d.0 ≡ Some d.1 → d.1.peer ≡ t.dialer → holds d.1.state ≡ true
        → NoneIs is_waiting t.dialer o.node → Met (placed w x o).nodes t x → Good (placed w x o)
        → Good (placed w x (write t t.dialer (ShakeMsg.Status Status.Alive) (set_state t s (Asked k) o)))
    told_alive o k d e none hd yd td nw met g =
        let sk = g.core.sides x o.node (at_x o e) in
        let g1 =
        first_state o (Asked k) e none refl refl (inl refl) refl
        (λ u b hb eb gs gb. holder u b hb eb gb (sk.one d.0 u d.1 b hd hb (yd ∙ sym eb) ((hold_kind d.1.state td).3) gb)) met g in
        answer (set_state t s (Asked k) o) (Asked k) (ShakeMsg.Status Status.Alive) e
        (side_after_same o.node t (as_state s (Asked k))) refl refl (λ j. absurd (let z : false ≡ true = j in cc)) g1
      where
        first_part : (p q r u : Bool) → r ≡ false → ((p && q) || (r && u)) ≡ true → q ≡ true
        first_part true true r u i j = refl
        first_part p q true u i j = cc
        first_part _ _ _ u i j = cc

        holder : (u : TrunkId) (b : TrunkSide) → side_at o.node u ≡ Some b → b.peer ≡ t.dialer → is_gone b.state ≡ false
            → (d.0 ≡ u) ⊎ (beside d.1.state b.state ≡ true) → holds b.state ≡ true
        holder u b hb eb gb (inl i) =
            ap (λ (z : TrunkSide). holds z.state) (same_Some b d.1 (sym hb ∙ ap (side_at o.node) (sym i) ∙ hd)) ∙ td
        holder u b hb eb gb (inr i) =
            let a : asks b.state ≡ true =
            first_part (holds d.1.state) (asks b.state) (asks d.1.state) (holds b.state) ((hold_kind d.1.state td).2) i in
            let z : true ≡ false = sym (asks_waits b.state a) ∙ nw u b hb eb in absurd (let y : true ≡ false = z in cc)
