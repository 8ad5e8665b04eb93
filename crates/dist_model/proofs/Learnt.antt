-- What nodes know of creations: how the sides of one node change, and what it tells.
use Rattle.erl_handshake.specs.declared.message.ShakeMsg.{ShakeMsg}
use Rattle.conn_core.specs.declared.arrival.Fault.{Fault}
use Rattle.erl_handshake.specs.declared.fault.ShakeFault.{ShakeFault}
use Rattle.dist_model.proofs.HandshakeParts.{Passing, as_state, found, still_none, still_there}
use Rattle.dist_model.proofs.Rules.{accepts, awaits_ack, awaits_challenge, awaits_name, awaits_reply, awaits_status, awaits_true}
use Rattle.dist_model.proofs.Rules.{greet, greet_dialing, greet_up, greet_waiting, handshake_as, handshake_by, name_as}
use Rattle.dist_model.specs.Admission.{give_up}
use Rattle.dist_model.specs.Introductions.{knows_peer, told_by}
use Rattle.dist_model.specs.Handshake.{handshake_at, challenge, up_is_lost, fault, challenge_or_park, set_state, with_side, write}
use Rattle.erl_handshake.specs.Digest.{digest_of}
use Rattle.erl_handshake.specs.Flags.{has_all_of, mandatory}
use Rattle.erl_handshake.specs.Roles.{is_answered, is_same}
use Rattle.erl_handshake.specs.declared.status.Status.{Status}
use Rattle.std.proofs.Common.{◌≡◌, ℕ, Bool, true, false, cond, refl, sym, ap, ◌∙◌, ◌||◌, Option, Some, None, nat_lt, subst, ◌⊎◌, inl, inr}
use Rattle.std.proofs.lemmas.Option.{same_Some, none-some}
use Rattle.std.specs.Ordering.{is_gt}
use Rattle.std.specs.FinMap as fm
use Rattle.dist_model.proofs.Calls.{IfGoes, if_either}
use Rattle.dist_model.proofs.Routes.{side_where_found}
use Rattle.dist_model.proofs.Sides.{side_at}
use Rattle.dist_model.specs.Arrivals.{arrive_at, arrive_fresh, on_up, signal_at}
use Rattle.dist_model.specs.Arrivals
use Rattle.dist_model.specs.Commands.{Accepts}
use Rattle.dist_model.specs.declared.report.Answer.{Answer}
use Rattle.dist_model.specs.Items.{Handshake, Item, kind_of}
use Rattle.dist_model.proofs.Records.{has_records}
use Rattle.dist_model.specs.Losses.{close_side, lose, lose_at, released_by, release_parked, close_if_swept}
use Rattle.dist_model.specs.Names.{Name}
use Rattle.dist_model.specs.Node.{Node, side_where}
use Rattle.dist_model.specs.Sides.{Accepting, Asked, AwaitsAck, AwaitsChallenge, AwaitsStatus, Gone, Losing, Parked, State, TrunkSide}
use Rattle.dist_model.specs.Sides.{Up, is_dialing, is_gone, is_losing, is_parked, is_up, is_waiting, lost, introduction_in}
use Rattle.dist_model.specs.Taking.{take_item}
use Rattle.dist_model.specs.Work.{Work, at_work}
use Rattle.erl_names.specs.Order.{name_cmp}
use Rattle.erl_names.specs.declared.trunk.TrunkId.{TrunkId}
use Rattle.erl_handshake.specs.declared.introduction.Introduction.{Introduction}
use Rattle.dist_model.specs.Handshake.{introduces}
use Rattle.erl_handshake.specs.Roles.{introduction_by}
use Rattle.dist_model.specs.Sides.{untold}

-- a message tells the creation of the node that writes it, or none
abbrev pub Honest : Node → ShakeMsg → Type 0
Honest n m = (c : Introduction) → told_by (Handshake m) ≡ Some c → c ≡ introduces n

-- how a side changes. What it knows of the peer it has known, or hears
pub data Turns (Heard : Introduction → Type 0) (o : Node) (t : TrunkId) (s : TrunkSide) : Type 0 where
  Fresh : side_at o t ≡ None → (knows_peer s.state ≡ true → Heard s.introduction) → Turns Heard o t s
  Went : (a : TrunkSide) → side_at o t ≡ Some a → s.peer ≡ a.peer → (is_gone s.state ≡ false → is_gone a.state ≡ false)
      → (knows_peer s.state ≡ true → ((knows_peer a.state ≡ true) × (s.introduction ≡ a.introduction)) ⊎ Heard s.introduction)
      → Turns Heard o t s

pub known_stays : (v : State) → knows_peer v ≡ true → is_gone v ≡ false
known_stays Gone h = cc
known_stays _ h = refl

same_introduction : (v : State) (c : Introduction) → is_gone v ≡ false → introduction_in v c ≡ c
same_introduction Gone c h = cc
same_introduction _ c h = refl

lost_stays : (v : State) → is_gone (lost v) ≡ false → is_gone v ≡ false
lost_stays Gone h = cc
lost_stays _ h = refl

lost_knows : (v : State) → knows_peer (lost v) ≡ true → knows_peer v ≡ true
lost_knows Up h = refl
lost_knows Losing h = refl
lost_knows _ h = cc

silent : (n : Node) (m : ShakeMsg) → told_by (Handshake m) ≡ None → Honest n m
silent n m h c e = absurd (none-some c (sym h ∙ e))

challenges : (n : Node) (w : ℕ) → Honest n (challenge n w)
challenges n w c e = sym (same_Some (introduces n) c e)

given_none : (d : Option (TrunkId × TrunkSide)) (test : State → Bool) (o : Work) (t : TrunkId) → Passing test o.node d
    → side_at o.node t ≡ None → side_at ((give_up d o).node) t ≡ None
given_none None test o t p h = h
given_none (Some e) test o t p h = still_none o e.0 t (as_state e.1 Gone) e.1 h p.0

module _ (Heard : TrunkId → Introduction → Type 0) (X : Work → Type 0)
    (side : (t : TrunkId) (s : TrunkSide) (o : Work) → Turns (Heard t) o.node t s → X o → X (with_side t s o))
    (wrote : (t : TrunkId) (y : Name) (m : ShakeMsg) (o : Work) → Honest o.node m → X o → X (write t y m o)) where
  moves : (t : TrunkId) (s : TrunkSide) (v : State) (o : Work) → side_at o.node t ≡ Some s → (is_gone v ≡ false → is_gone s.state ≡ false)
      → (knows_peer v ≡ true → knows_peer s.state ≡ true) → X o → X (set_state t s v o)
  moves t s v o h g q k =
      side t (as_state s v) o (Went s h refl g (λ e. inl (q e, same_introduction v s.introduction (known_stays v e)))) k

  ends : (t : TrunkId) (s : TrunkSide) (o : Work) → side_at o.node t ≡ Some s → X o → X (set_state t s Gone o)
  ends t s o h k = moves t s Gone o h (λ e. cc) (λ e. cc) k

  pub known_fault : (j : Fault) (t : TrunkId) (s : TrunkSide) (o : Work) → side_at o.node t ≡ Some s → X o → IfGoes (fault j t s o) X
  known_fault j t s o h k = moves t s (lost s.state) o h (lost_stays s.state) (lost_knows s.state) k

  -- an attempt that the arriving one ends
  given : (d : Option (TrunkId × TrunkSide)) (test : State → Bool) (o : Work) → Passing test o.node d → X o → X (give_up d o)
  given None test o h k = k
  given (Some e) test o h k = ends e.0 e.1 o h.0 k

  -- a new side of this trunk, towards its dialer
  module _ (t : TrunkId) where
    abbrev new : Introduction → TrunkSide
    new c = record { peer = t.dialer; introduction = c; state = Gone }

    new_gone : (c : Introduction) (o : Work) → side_at o.node t ≡ None → X o → X (set_state t (new c) Gone o)
    new_gone c o h k = side t (as_state (new c) Gone) o (Fresh h (λ e. cc)) k

    refused : (c : Introduction) (o : Work) → side_at o.node t ≡ None → X o
        → X (write t t.dialer (ShakeMsg.Status Status.Nok) (set_state t (new c) Gone o))
    refused c o h k = wrote t t.dialer (ShakeMsg.Status Status.Nok) (set_state t (new c) Gone o)
        (silent ((set_state t (new c) Gone o).node) (ShakeMsg.Status Status.Nok) refl) (new_gone c o h k)

    module _ (c : Introduction) (heard : Heard t c) where
      begins : (v : State) (o : Work) → side_at o.node t ≡ None → X o → X (set_state t (new c) v o)
      begins v o h k = side t (as_state (new c) v) o (Fresh h (λ e. subst (Heard t) (sym (same_introduction v c (known_stays v e))) heard)) k

      accepted : (w : ℕ) (u : Status) (x : Item) (o : Work) → side_at o.node t ≡ None → X o
          → IfGoes (accepts t (new c) w (ShakeMsg.Status u) x o) X
      accepted w u x o h k =
          let o1 = set_state t (new c) (Accepting w) o in
          wrote t t.dialer (challenge o.node w) (write t t.dialer (ShakeMsg.Status u) o1) (challenges o.node w)
          (wrote t t.dialer (ShakeMsg.Status u) o1 (silent o1.node (ShakeMsg.Status u) refl) (begins (Accepting w) o h k))

      greeted_dialing : (d : Option (TrunkId × TrunkSide)) (w : ℕ) (x : Item) (o : Work) → Passing is_dialing o.node d
          → side_at o.node t ≡ None → X o → IfGoes (greet_dialing d t (new c) w x o) X
      greeted_dialing None w x o p h k = accepted w Status.Ok x o h k
      greeted_dialing (Some e) w x o p h k = if_either (is_gt (name_cmp t.dialer o.node.mint.name)) _ _ X
          (accepted w Status.OkSimultaneous x (give_up (Some e) o) (given_none (Some e) is_dialing o t p h)
          (given (Some e) is_dialing o p k))
          (refused c o h k)

      greeted_up : (d : Option (TrunkId × TrunkSide)) (w : ℕ) (x : Item) (o : Work) → side_at o.node t ≡ None → X o
          → IfGoes (greet_up d t (new c) w x o) X
      greeted_up None w x o h k = greeted_dialing (side_where is_dialing t.dialer (fm.entries o.node.sides)) w x o
          (found is_dialing t.dialer o.node _ refl) h k
      greeted_up (Some e) w x o h k = wrote t t.dialer (ShakeMsg.Status Status.Alive) (set_state t (new c) (Asked w) o)
          (silent ((set_state t (new c) (Asked w) o).node) (ShakeMsg.Status Status.Alive) refl) (begins (Asked w) o h k)

      greeted : (w : ℕ) (x : Item) (o : Work) → side_at o.node t ≡ None → X o → IfGoes (greet t (new c) w x o) X
      greeted w x o h k = greeted_up (side_where (λ v. is_up v || is_losing v) t.dialer (fm.entries o.node.sides)) w x o h k

      greeted_waiting : (d : Option (TrunkId × TrunkSide)) (w : ℕ) (x : Item) (o : Work) → Passing is_waiting o.node d
          → side_at o.node t ≡ None → X o → IfGoes (greet_waiting d t (new c) w x o) X
      greeted_waiting None w x o p h k = greeted w x o h k
      greeted_waiting (Some e) w x o p h k = if_either (nat_lt e.0.count t.count) _ _ X
          (greeted w x (give_up (Some e) o) (given_none (Some e) is_waiting o t p h) (given (Some e) is_waiting o p k))
          (refused c o h k)

    abbrev Hears : ShakeMsg → Type 0
    Hears m = (c : Introduction) → told_by (Handshake m) ≡ Some c → Heard t c

    named : (m : ShakeMsg) (w : ℕ) (o : Work) → Hears m → side_at o.node t ≡ None → X o → IfGoes (awaits_name t m w o) X
    named (ShakeMsg.SendName flags creation name) w o f h k =
        if_either (is_same name t.dialer) _ _ X
        (if_either (has_all_of flags mandatory) _ _ X
        (greeted_waiting (introduction_by creation flags) (f (introduction_by creation flags) refl) (side_where is_waiting t.dialer (fm.entries o.node.sides)) w
        (Handshake (ShakeMsg.SendName flags creation name)) o (found is_waiting t.dialer o.node _ refl) h k)
        (new_gone (introduction_by creation flags) o h k))
        (new_gone (introduction_by creation flags) o h k)
    named _ w o f h k = new_gone untold o h k

    pub fresh_learns : (m : Option ShakeMsg) (w : ℕ) (o : Work) → ((l : ShakeMsg) → m ≡ Some l → Hears l) → side_at o.node t ≡ None → X o
        → IfGoes (arrive_fresh m t w o) X
    fresh_learns None w o f h k = new_gone untold o h k
    fresh_learns (Some m) w o f h k = subst (λ z. IfGoes z X) (sym (name_as t m w o)) (named m w o (f m refl) h k)

  module _ (t : TrunkId) (s : TrunkSide) (o : Work) (at : side_at o.node t ≡ Some s) (k : X o) where
    bad : IfGoes (fault (Fault.Shake ShakeFault.BadMessage) t s o) X
    bad = known_fault (Fault.Shake ShakeFault.BadMessage) t s o at k

    -- and is told no creation
    tells : (v : State) (m : ShakeMsg) → told_by (Handshake m) ≡ None → (is_gone v ≡ false → is_gone s.state ≡ false)
        → (knows_peer v ≡ true → knows_peer s.state ≡ true) → X (write t s.peer m (set_state t s v o))
    tells v m e g q = wrote t s.peer m (set_state t s v o) (silent ((set_state t s v o).node) m e) (moves t s v o at g q k)

    status : (v : ℕ) → s.state ≡ AwaitsStatus v → (m : ShakeMsg) → IfGoes (awaits_status t s v m o) X
    status v h (ShakeMsg.Status Status.Ok) = moves t s (AwaitsChallenge v) o at (λ e. ap is_gone h) (λ e. cc) k
    status v h (ShakeMsg.Status Status.OkSimultaneous) = moves t s (AwaitsChallenge v) o at (λ e. ap is_gone h) (λ e. cc) k
    status v h (ShakeMsg.Status Status.Alive) = tells (AwaitsChallenge v) (ShakeMsg.Status Status.True) refl (λ e. ap is_gone h) (λ e. cc)
    status v h (ShakeMsg.Status Status.Nok) = known_fault (Fault.Shake ShakeFault.Nok) t s o at k
    status v h (ShakeMsg.Status Status.NotAllowed) = known_fault (Fault.Shake ShakeFault.Nok) t s o at k
    status v h _ = bad

    challenged : (v : ℕ) → s.state ≡ AwaitsChallenge v → (m : ShakeMsg) → Hears t m → IfGoes (awaits_challenge t s v m o) X
    challenged v h (ShakeMsg.Challenge flags word creation name) f =
        let s1 : TrunkSide = record { peer = s.peer; introduction = introduction_by creation flags; state = s.state } in
        let o1 = set_state t s1 (AwaitsAck v) o in
        let reply = ShakeMsg.ChallengeReply v (digest_of o.node.cookie word) in
        if_either (is_same name s.peer) _ _ X (if_either (has_all_of flags mandatory) _ _ X
        (wrote t s.peer reply o1 (silent o1.node reply refl)
        (side t (as_state s1 (AwaitsAck v)) o (Went s at refl (λ e. ap is_gone h) (λ e. inr (f (introduction_by creation flags) refl))) k))
        (known_fault (Fault.Shake ShakeFault.FlagsMissing) t s o at k)) (known_fault (Fault.Shake ShakeFault.Forged) t s o at k)
    challenged v h _ f = bad

    acknowledged : (v : ℕ) → s.state ≡ AwaitsAck v → (m : ShakeMsg) → IfGoes (awaits_ack t s v m o) X
    acknowledged v h (ShakeMsg.ChallengeAck digest) = if_either (is_answered o.node.cookie v digest) _ _ X
        (moves t s Up o at (λ e. ap is_gone h) (λ e. ap knows_peer h) k) (known_fault (Fault.Shake ShakeFault.BadDigest) t s o at k)
    acknowledged v h _ = bad

    ended_up : (d : Option (TrunkId × TrunkSide)) → Passing is_up o.node d → X (up_is_lost d o)
    ended_up None p = k
    ended_up (Some e) p = moves e.0 e.1 Losing o p.0 (λ i. two e.1.state p.1) (λ i. three e.1.state p.1) k
      where
        two : (v : State) → is_up v ≡ true → is_gone v ≡ false
        two Up h = refl
        two _ h = cc

        three : (v : State) → is_up v ≡ true → knows_peer v ≡ true
        three Up h = refl
        three _ h = cc

    still_at : (d : Option (TrunkId × TrunkSide)) → Passing is_up o.node d → is_up s.state ≡ false
        → side_at ((up_is_lost d o).node) t ≡ Some s
    still_at None p h = at
    still_at (Some e) p h = still_there o e.0 t (as_state e.1 Losing) s at (λ j.
        let c : true ≡ false = sym p.1 ∙ ap (λ (z : TrunkSide). is_up z.state) (same_Some e.1 s (sym p.0 ∙ ap (side_at o.node) (sym j) ∙ at)) ∙ h in cc)

    went_on : (d : Option (TrunkId × TrunkSide)) (w v : ℕ) (o' : Work) → side_at o'.node t ≡ Some s → s.state ≡ Asked v → X o'
        → X (challenge_or_park d t s w o')
    went_on None w v o' a h j = wrote t s.peer (challenge o'.node w) (set_state t s (Accepting w) o') (challenges o'.node w)
        (moves t s (Accepting w) o' a (λ e. ap is_gone h) (λ e. ap knows_peer h) j)
    went_on (Some e) w v o' a h j = moves t s (Parked w) o' a (λ e. ap is_gone h) (λ e. ap knows_peer h) j

    asked : (v : ℕ) → s.state ≡ Asked v → (m : ShakeMsg) → IfGoes (awaits_true t s v m o) X
    asked v h (ShakeMsg.Status Status.True) =
        let d = side_where is_up s.peer (fm.entries o.node.sides) in
        let p = found is_up s.peer o.node d refl in
        went_on (side_where is_losing s.peer (fm.entries ((up_is_lost d o).node.sides))) v v (up_is_lost d o)
        (still_at d p (ap is_up h)) h (ended_up d p)
    asked v h (ShakeMsg.Status Status.False) = known_fault (Fault.Shake ShakeFault.Nok) t s o at k
    asked v h _ = bad

    replied : (v : ℕ) → s.state ≡ Accepting v → (m : ShakeMsg) → IfGoes (awaits_reply t s v m o) X
    replied v h (ShakeMsg.ChallengeReply word digest) = if_either (is_answered o.node.cookie v digest) _ _ X
        (tells Up (ShakeMsg.ChallengeAck (digest_of o.node.cookie word)) refl (λ e. ap is_gone h) (λ e. ap knows_peer h))
        (known_fault (Fault.Shake ShakeFault.BadDigest) t s o at k)
    replied v h _ = bad

    by_rule : (v : State) → s.state ≡ v → (m : ShakeMsg) → Hears t m → IfGoes (handshake_by v t s m o) X
    by_rule (AwaitsStatus v) h m f = status v h m
    by_rule (AwaitsChallenge v) h m f = challenged v h m f
    by_rule (AwaitsAck v) h m f = acknowledged v h m
    by_rule (Asked v) h m f = asked v h m
    by_rule (Accepting v) h m f = replied v h m
    by_rule _ h m f = bad

    shaken : (v : State) → s.state ≡ v → (m : ShakeMsg) → Hears t m → IfGoes (handshake_at v t s m o) X
    shaken v h m f = subst (λ z. IfGoes z X) (sym (handshake_as v t s m o)) (by_rule v h m f)

    module _ (x : Item) (taken : X (take_item s.peer x o)) where
      on_up_learns : IfGoes (on_up t s x o) X
      on_up_learns = go (Arrivals.is_good o.node s x)
        where
          go : (b : Bool) → IfGoes (cond b (Accepts (Answer.Took (kind_of x)) (take_item s.peer x o)) (fault Fault.Forged t s o)) X
          go true = taken
          go false = known_fault Fault.Forged t s o at k

      signalled : (v : State) → IfGoes (signal_at v t s x o) X
      signalled Up = on_up_learns
      signalled _ = bad

      pub known_learns : (m : Option ShakeMsg) → ((l : ShakeMsg) → m ≡ Some l → Hears t l) → IfGoes (arrive_at m t s x o) X
      known_learns None f = signalled s.state
      known_learns (Some m) f = shaken s.state refl m (f m refl)

    lost_learns : (v : State) → s.state ≡ v → IfGoes (lose_at v t s o) X
    lost_learns Up h = moves t s Losing o at (λ e. ap is_gone h) (λ e. ap knows_peer h) k
    lost_learns Losing h = tt
    lost_learns Gone h = tt
    lost_learns _ h = ends t s o at k

  pub lose_learns : (n : Node) (t : TrunkId) (s : Option TrunkSide) → side_at n t ≡ s → X (at_work n) → IfGoes (lose n t s) X
  lose_learns n t None h k = tt
  lose_learns n t (Some s) h k = lost_learns t s (at_work n) h k s.state refl

  -- a swept connection
  unparked_by : (v : State) (t : TrunkId) (s : TrunkSide) (o : Work) → s.state ≡ v → side_at o.node t ≡ Some s → X o
      → X (released_by v t s o)
  unparked_by (Parked w) t s o e h k = wrote t s.peer (challenge o.node w) (set_state t s (Accepting w) o) (challenges o.node w)
      (moves t s (Accepting w) o h (λ i. ap is_gone e) (λ i. ap knows_peer e) k)
  unparked_by _ t s o e h k = k

  unparked : (y : Name) (d : Option (TrunkId × TrunkSide)) (o : Work) → side_where is_parked y (fm.entries o.node.sides) ≡ d → X o
      → X (release_parked d o)
  unparked y None o h k = k
  unparked y (Some e) o h k =
      let v = side_where_found is_parked y (fm.entries o.node.sides) e (fm.entries_sorted o.node.sides) h in
      unparked_by e.1.state e.0 e.1 o refl (fm.get-entries o.node.sides e.0 ∙ v.there) k

  pub swept_learns : (t : TrunkId) (s : TrunkSide) (o : Work) → side_at o.node t ≡ Some s → X o → X (close_if_swept t s o)
  swept_learns t s o h k = go (has_records s.peer o.node)
    where
      go : (b : Bool) → X (cond b o (close_side t s o))
      go true = k
      go false =
          let o1 = set_state t s Gone o in
          unparked s.peer (side_where is_parked s.peer (fm.entries o1.node.sides)) o1 refl (ends t s o h k)
