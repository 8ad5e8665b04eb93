-- What each rule of the handshake keeps of what was drawn, shown and sent.
use Rattle.std.proofs.Common.{◌≡◌, ℕ, Bool, true, false, cond, List, refl, sym, ap, ◌∙◌, subst, Option, Some, None, inl, inr, ◌||◌, nat_lt, Contains}
use Rattle.std.proofs.lemmas.List.Elements.{Contains-push}
use Rattle.std.proofs.lemmas.Option.{same_Some, none-some}
use Rattle.std.specs.Ordering.{is_gt}
use Rattle.std.specs.FinMap as fm
use Rattle.conn_core.specs.declared.arrival.Fault.{Fault}
use Rattle.dist_model.proofs.Calls.{IfGoes}
use Rattle.dist_model.proofs.DueParts.{sent_item, sent_start}
use Rattle.dist_model.proofs.DueSteps.{lost_ends}
use Rattle.dist_model.proofs.HandshakeParts.{as_state}
use Rattle.dist_model.proofs.Records.{has_records}
use Rattle.dist_model.proofs.Routes.{side_where_found}
use Rattle.dist_model.proofs.Rules.{accepts, awaits_ack, awaits_challenge, awaits_name, awaits_reply, awaits_status, awaits_true}
use Rattle.dist_model.proofs.Rules.{greet, greet_dialing, greet_up, greet_waiting, handshake_as, handshake_by, name_as}
use Rattle.dist_model.proofs.Shown.{Drawn, IfDone, Shows, bare, done_either, gone_ok, plain, sets, unmoved, with_word, word_of, wrote}
use Rattle.dist_model.proofs.Sides.{holds, side_at, up_is}
use Rattle.dist_model.specs.Admission.{give_up}
use Rattle.dist_model.specs.Arrivals.{arrive_at, arrive_fresh, handshake_in, is_good, signal_at}
use Rattle.dist_model.specs.Commands.{Accepts, Outcome}
use Rattle.dist_model.specs.Cookies.{challenge_in, digest_in}
use Rattle.dist_model.specs.Handshake.{challenge, challenge_or_park, fault, set_state, up_is_lost, write}
use Rattle.dist_model.specs.Items.{Handshake, Item, Signalled, kind_of}
use Rattle.dist_model.specs.Losses.{close_if_swept, close_side, lose_at, release_parked, released_by}
use Rattle.dist_model.specs.Names.{Name}
use Rattle.dist_model.specs.Node.{Node, side_where}
use Rattle.dist_model.specs.Sides.{Accepting, Asked, AwaitsAck, AwaitsChallenge, AwaitsStatus, Gone, Losing, Parked, State, TrunkSide}
use Rattle.dist_model.specs.Sides.{Up, is_dialing, is_losing, is_parked, is_up, is_waiting, lost}
use Rattle.dist_model.specs.Taking.{take_item}
use Rattle.dist_model.specs.Work.{Work, at_work}
use Rattle.dist_model.specs.declared.report.Answer.{Answer}
use Rattle.dist_model.specs.declared.report.Effect.{Effect}
use Rattle.dist_model.specs.declared.report.Kind.{Kind}
use Rattle.erl_control.specs.declared.signal.Signal.{Signal}
use Rattle.erl_handshake.specs.Digest.{digest_of}
use Rattle.erl_handshake.specs.Flags.{has_all_of, mandatory}
use Rattle.erl_handshake.specs.Roles.{is_answered, is_same}
use Rattle.erl_handshake.specs.declared.fault.ShakeFault.{ShakeFault}
use Rattle.erl_handshake.specs.declared.message.ShakeMsg.{ShakeMsg}
use Rattle.erl_handshake.specs.declared.status.Status.{Status}
use Rattle.erl_names.specs.Order.{name_cmp}
use Rattle.erl_names.specs.declared.trunk.TrunkId.{TrunkId}
use Rattle.erl_handshake.specs.declared.introduction.Introduction.{Introduction}
use Rattle.erl_handshake.specs.Roles.{introduction_by}
use Rattle.dist_model.specs.Sides.{untold}

lost_bare : (v : State) → word_of (lost v) ≡ None
lost_bare Up = refl
lost_bare _ = refl

there_of : (test : State → Bool) (y : Name) (o : Work) (e : TrunkId × TrunkSide) → side_where test y (fm.entries o.node.sides) ≡ Some e
    → (side_at o.node e.0 ≡ Some e.1) × (test e.1.state ≡ true)
there_of test y o e h = let f = side_where_found test y (fm.entries o.node.sides) e (fm.entries_sorted o.node.sides) h in
    (fm.get-entries o.node.sides e.0 ∙ f.there, f.passes)

module _ (n : Node) (Proven : TrunkId → Name → Type 0) (May : TrunkId → Name → List ℕ → Type 0) where
  -- whatever was drawn for a new side
  module _ (Now : TrunkId → ℕ → Type 0) where
    abbrev X : Work → Type 0
    X = Shows n Proven May Now

    abbrev Has : TrunkId → ℕ → Type 0
    Has = Drawn n Now

    pub gone : (t : TrunkId) (s : TrunkSide) (o : Work) → X o → X (set_state t s Gone o)
    gone t s o g = sets n Proven May Now t (as_state s Gone) o (gone_ok n Proven May Now t s) g

    pub loses : (t : TrunkId) (s : TrunkSide) (o : Work) → side_at o.node t ≡ Some s → X o → X (set_state t s (lost s.state) o)
    loses t s o h g = sets n Proven May Now t (as_state s (lost s.state)) o (bare n Proven May Now t (as_state s (lost s.state))
        (lost_bare s.state) (λ e. (g.sides t s h).proven ((lost_ends s.state).2 e))) g

    -- a state with the same challenge
    goes : (t : TrunkId) (s : TrunkSide) (u : State) (w : ℕ) (o : Work) → word_of u ≡ Some w → holds u ≡ false → Has t w → X o
        → X (set_state t s u o)
    goes t s u w o h k d g = sets n Proven May Now t (as_state s u) o (with_word n Proven May Now t (as_state s u) w h k d) g

    pub challenges : (t : TrunkId) (s : TrunkSide) (y : Name) (p : Node) (w : ℕ) (o : Work) → Has t w → X o → X (write t y (challenge p w) o)
    challenges t s y p w o d g = wrote n Proven May Now t y (challenge p w) o (record {
      word = λ c e. subst (Has t) (same_Some w c e) d;
      digest = λ k e. absurd (none-some k e);
    }) g

    went_on : (d : Option (TrunkId × TrunkSide)) (t : TrunkId) (s : TrunkSide) (w : ℕ) (o : Work) → Has t w → X o
        → X (challenge_or_park d t s w o)
    went_on None t s w o k g = challenges t s s.peer o.node w (set_state t s (Accepting w) o) k (goes t s (Accepting w) w o refl refl k g)
    went_on (Some l) t s w o k g = goes t s (Parked w) w o refl refl k g

    up_lost : (d : Option (TrunkId × TrunkSide)) (y : Name) (o : Work) → side_where is_up y (fm.entries o.node.sides) ≡ d → X o
        → X (up_is_lost d o)
    up_lost None y o j g = g
    up_lost (Some e) y o j g = let f = there_of is_up y o e j in
        sets n Proven May Now e.0 (as_state e.1 Losing) o (bare n Proven May Now e.0 (as_state e.1 Losing) refl
        (λ i. (g.sides e.0 e.1 f.0).proven (ap holds (up_is e.1.state f.1)))) g

    -- ---- a loss, and a sweep

    pub loses_at : (t : TrunkId) (s : TrunkSide) (o : Work) → side_at o.node t ≡ Some s → X o → (v : State) → s.state ≡ v
        → IfGoes (lose_at v t s o) X
    loses_at t s o h g Up e = subst (λ v. X (set_state t s v o)) (ap lost e) (loses t s o h g)
    loses_at t s o h g Losing e = tt
    loses_at t s o h g Gone e = tt
    loses_at t s o h g _ e = gone t s o g

    unparks_by : (t : TrunkId) (s : TrunkSide) (o : Work) → side_at o.node t ≡ Some s → X o → (v : State) → s.state ≡ v
        → X (released_by v t s o)
    unparks_by t s o h g (Parked w) e = went_on None t s w o ((g.sides t s h).word w (ap word_of e)) g
    unparks_by t s o h g (AwaitsStatus w) e = g
    unparks_by t s o h g _ e = g

    unparks : (y : Name) (o : Work) (d : Option (TrunkId × TrunkSide)) → side_where is_parked y (fm.entries o.node.sides) ≡ d → X o
        → X (release_parked d o)
    unparks y o None j g = g
    unparks y o (Some e) j g = unparks_by e.0 e.1 o (there_of is_parked y o e j).0 g e.1.state refl

    pub sweeps : (t : TrunkId) (s : TrunkSide) (o : Work) → X o → X (close_if_swept t s o)
    sweeps t s o g = go (has_records s.peer o.node)
      where
        go : (b : Bool) → X (cond b o (close_side t s o))
        go true = g
        go false = unparks s.peer (set_state t s Gone o) (side_where is_parked s.peer (fm.entries ((set_state t s Gone o).node.sides))) refl
            (gone t s o g)

    -- ---- what comes to a side that is known

    -- a digest that the side takes shows the cookie, and who is challenged may answer
    abbrev pub Heard : TrunkId → TrunkSide → ShakeMsg → Type 0
    Heard t v m =
        ((u : ℕ) (d : List ℕ) → word_of v.state ≡ Some u → digest_in m ≡ Some d → is_answered n.cookie u d ≡ true → Proven t v.peer)
        × ((c : ℕ) → challenge_in m ≡ Some c → May t v.peer (digest_of n.cookie c))

    module _ (old : (t : TrunkId) (s : TrunkSide) → side_at n t ≡ Some s → holds s.state ≡ true → Proven t s.peer)
        (t : TrunkId) (v : TrunkSide) (h : side_at n t ≡ Some v) where
      start : X (at_work n)
      start = unmoved n Proven May Now old (at_work n) (λ u. refl) tt

      bad : (k : Fault) → IfGoes (fault k t v (at_work n)) X
      bad k = loses t v (at_work n) h start

      unless : (b : Bool) (o : Outcome) (k : Fault) → (b ≡ true → IfGoes o X) → IfGoes (cond b o (fault k t v (at_work n))) X
      unless true o k f = f refl
      unless false o k f = bad k

      same_word : (u : ℕ) → word_of v.state ≡ Some u → Has t u
      same_word u e = inl (v, h, e)

      on_status : (u : ℕ) → v.state ≡ AwaitsStatus u → (m : ShakeMsg) → IfGoes (awaits_status t v u m (at_work n)) X
      on_status u e (ShakeMsg.Status Status.Ok) = goes t v (AwaitsChallenge u) u (at_work n) refl refl (same_word u (ap word_of e)) start
      on_status u e (ShakeMsg.Status Status.OkSimultaneous) =
          goes t v (AwaitsChallenge u) u (at_work n) refl refl (same_word u (ap word_of e)) start
      on_status u e (ShakeMsg.Status Status.Alive) =
          wrote n Proven May Now t v.peer (ShakeMsg.Status Status.True) (set_state t v (AwaitsChallenge u) (at_work n))
          (plain n Proven May Now t v.peer (ShakeMsg.Status Status.True) refl refl)
          (goes t v (AwaitsChallenge u) u (at_work n) refl refl (same_word u (ap word_of e)) start)
      on_status u e (ShakeMsg.Status Status.Nok) = bad (Fault.Shake ShakeFault.Nok)
      on_status u e (ShakeMsg.Status Status.NotAllowed) = bad (Fault.Shake ShakeFault.Nok)
      on_status u e _ = bad (Fault.Shake ShakeFault.BadMessage)

      on_challenge : (u : ℕ) → v.state ≡ AwaitsChallenge u → (m : ShakeMsg) → Heard t v m → IfGoes (awaits_challenge t v u m (at_work n)) X
      on_challenge u e (ShakeMsg.Challenge f w c y) k = unless (is_same y v.peer) _ (Fault.Shake ShakeFault.Forged) (λ i.
          unless (has_all_of f mandatory) _ (Fault.Shake ShakeFault.FlagsMissing) (λ j.
          let s : TrunkSide = record { peer = v.peer; introduction = introduction_by c f; state = v.state } in
          wrote n Proven May Now t v.peer (ShakeMsg.ChallengeReply u (digest_of n.cookie w)) (set_state t s (AwaitsAck u) (at_work n))
          (record {
            word = λ z l. subst (Has t) (same_Some u z l) (same_word u (ap word_of e));
            digest = λ d l. subst (May t v.peer) (same_Some (digest_of n.cookie w) d l) (k.1 w refl);
          })
          (goes t s (AwaitsAck u) u (at_work n) refl refl (same_word u (ap word_of e)) start)))
      on_challenge u e _ k = bad (Fault.Shake ShakeFault.BadMessage)

      on_ack : (u : ℕ) → v.state ≡ AwaitsAck u → (m : ShakeMsg) → Heard t v m → IfGoes (awaits_ack t v u m (at_work n)) X
      on_ack u e (ShakeMsg.ChallengeAck d) k = unless (is_answered n.cookie u d) _ (Fault.Shake ShakeFault.BadDigest) (λ b.
          sets n Proven May Now t (as_state v Up) (at_work n) (bare n Proven May Now t (as_state v Up) refl
          (λ i. k.0 u d (ap word_of e) refl b)) start)
      on_ack u e _ k = bad (Fault.Shake ShakeFault.BadMessage)

      on_answer : (u : ℕ) → v.state ≡ Asked u → (m : ShakeMsg) → IfGoes (awaits_true t v u m (at_work n)) X
      on_answer u e (ShakeMsg.Status Status.True) =
          let d = side_where is_up v.peer (fm.entries n.sides) in
          let o = up_is_lost d (at_work n) in
          went_on (side_where is_losing v.peer (fm.entries o.node.sides)) t v u o (same_word u (ap word_of e))
          (up_lost d v.peer (at_work n) refl start)
      on_answer u e (ShakeMsg.Status Status.False) = bad (Fault.Shake ShakeFault.Nok)
      on_answer u e _ = bad (Fault.Shake ShakeFault.BadMessage)

      on_reply : (u : ℕ) → v.state ≡ Accepting u → (m : ShakeMsg) → Heard t v m → IfGoes (awaits_reply t v u m (at_work n)) X
      on_reply u e (ShakeMsg.ChallengeReply w d) k = unless (is_answered n.cookie u d) _ (Fault.Shake ShakeFault.BadDigest) (λ b.
          wrote n Proven May Now t v.peer (ShakeMsg.ChallengeAck (digest_of n.cookie w)) (set_state t v Up (at_work n))
          (record {
            word = λ z l. absurd (none-some z l);
            digest = λ z l. subst (May t v.peer) (same_Some (digest_of n.cookie w) z l) (k.1 w refl);
          })
          (sets n Proven May Now t (as_state v Up) (at_work n) (bare n Proven May Now t (as_state v Up) refl
          (λ i. k.0 u d (ap word_of e) refl b)) start))
      on_reply u e _ k = bad (Fault.Shake ShakeFault.BadMessage)

      by_rule : (a : State) → v.state ≡ a → (m : ShakeMsg) → Heard t v m → IfGoes (handshake_by a t v m (at_work n)) X
      by_rule (AwaitsStatus u) e m k = on_status u e m
      by_rule (AwaitsChallenge u) e m k = on_challenge u e m k
      by_rule (AwaitsAck u) e m k = on_ack u e m k
      by_rule (Asked u) e m k = on_answer u e m
      by_rule (Accepting u) e m k = on_reply u e m k
      by_rule _ e m k = bad (Fault.Shake ShakeFault.BadMessage)

      taken : (i : Item) → X (take_item v.peer i (at_work n))
      taken i = let k = sent_item n v.peer i (at_work n) (sent_start n) in
          unmoved n Proven May Now old (take_item v.peer i (at_work n)) (λ u. ap (λ z. fm.get z u) k.sides) k.words

      by_signal : (a : State) (i : Item) → IfGoes (signal_at a t v i (at_work n)) X
      by_signal Up i = go (is_good n v i)
        where
          go : (b : Bool) → IfGoes (cond b (Accepts (Answer.Took (kind_of i)) (take_item v.peer i (at_work n))) (fault Fault.Forged t v (at_work n))) X
          go true = taken i
          go false = bad Fault.Forged
      by_signal _ i = bad (Fault.Shake ShakeFault.BadMessage)

      pub known_comes : (o : Option ShakeMsg) (i : Item) → ((m : ShakeMsg) → o ≡ Some m → Heard t v m)
          → IfGoes (arrive_at o t v i (at_work n)) X
      known_comes None i k = by_signal v.state i
      known_comes (Some m) i k = subst (λ z. IfGoes z X) (sym (handshake_as v.state t v m (at_work n))) (by_rule v.state refl m (k m refl))

  -- ---- a new side, whose challenge is drawn where the name is taken

  module _ (Now : Answer → TrunkId → ℕ → Type 0) (t : TrunkId) (none : side_at n t ≡ None) where
    abbrev P : Answer → Work → Type 0
    P a o = Shows n Proven May (Now a) o

    abbrev Any : Work → Type 0
    Any o = (a : Answer) → P a o

    abbrev new : Introduction → TrunkSide
    new c = record { peer = t.dialer; introduction = c; state = Gone }

    is_gone : (c : Introduction) (o : Work) (a : Answer) → Any o → P a (set_state t (new c) Gone o)
    is_gone c o a g = gone (Now a) t (new c) o (g a)

    refused : (c : Introduction) (o : Work) (a : Answer) → Any o → P a (write t t.dialer (ShakeMsg.Status Status.Nok) (set_state t (new c) Gone o))
    refused c o a g = wrote n Proven May (Now a) t t.dialer (ShakeMsg.Status Status.Nok) (set_state t (new c) Gone o)
        (plain n Proven May (Now a) t t.dialer (ShakeMsg.Status Status.Nok) refl refl) (is_gone c o a g)

    module _ (i : Item) (w : ℕ) (now : Now (Answer.Took (kind_of i)) t w) where
      abbrev a : Answer
      a = Answer.Took (kind_of i)

      has : Drawn n (Now a) t w
      has = inr (none, now)

      begins : (c : Introduction) (u : State) (v : Status) (o : Work) → word_of u ≡ Some w → holds u ≡ false → Any o
          → P a (write t t.dialer (ShakeMsg.Status v) (set_state t (new c) u o))
      begins c u v o h k g = wrote n Proven May (Now a) t t.dialer (ShakeMsg.Status v) (set_state t (new c) u o)
          (plain n Proven May (Now a) t t.dialer (ShakeMsg.Status v) refl refl) (goes (Now a) t (new c) u w o h k has (g a))

      accepted : (c : Introduction) (v : Status) (o : Work) → Any o → IfDone (accepts t (new c) w (ShakeMsg.Status v) i o) P
      accepted c v o g = challenges (Now a) t (new c) t.dialer o.node w
          (write t t.dialer (ShakeMsg.Status v) (set_state t (new c) (Accepting w) o)) has (begins c (Accepting w) v o refl refl g)

      given_up : (e : TrunkId × TrunkSide) (o : Work) → Any o → Any (give_up (Some e) o)
      given_up e o g b = gone (Now b) e.0 e.1 o (g b)

      greets_dialing : (c : Introduction) (o : Work) (d : Option (TrunkId × TrunkSide)) → Any o → IfDone (greet_dialing d t (new c) w i o) P
      greets_dialing c o None g = accepted c Status.Ok o g
      greets_dialing c o (Some e) g = done_either (is_gt (name_cmp t.dialer o.node.mint.name)) _ _ P
          (accepted c Status.OkSimultaneous (give_up (Some e) o) (given_up e o g)) (λ z. refused c o a g)

      greets_up : (c : Introduction) (o : Work) (d : Option (TrunkId × TrunkSide)) → Any o → IfDone (greet_up d t (new c) w i o) P
      greets_up c o None g = greets_dialing c o (side_where is_dialing t.dialer (fm.entries o.node.sides)) g
      greets_up c o (Some e) g = begins c (Asked w) Status.Alive o refl refl g

      greets : (c : Introduction) (o : Work) → Any o → IfDone (greet t (new c) w i o) P
      greets c o g = greets_up c o (side_where (λ v. is_up v || is_losing v) t.dialer (fm.entries o.node.sides)) g

      greets_waiting : (c : Introduction) (o : Work) (d : Option (TrunkId × TrunkSide)) → Any o → IfDone (greet_waiting d t (new c) w i o) P
      greets_waiting c o None g = greets c o g
      greets_waiting c o (Some e) g = done_either (nat_lt e.0.count t.count) _ _ P (greets c (give_up (Some e) o) (given_up e o g))
          (λ z. refused c o _ g)

    named : (w f c : ℕ) (y : List ℕ) (o : Work) → Now (Answer.Took (kind_of (Handshake (ShakeMsg.SendName f c y)))) t w → Any o
        → IfDone (awaits_name t (ShakeMsg.SendName f c y) w o) P
    named w f c y o now g = done_either (is_same y t.dialer) _ _ P (done_either (has_all_of f mandatory) _ _ P
        (greets_waiting (Handshake (ShakeMsg.SendName f c y)) w now (introduction_by c f) o (side_where is_waiting t.dialer (fm.entries o.node.sides)) g)
        (λ z. is_gone (introduction_by c f) o _ g)) (λ z. is_gone (introduction_by c f) o _ g)

    pub fresh_comes : (m : Option ShakeMsg) (w : ℕ) (o : Work)
        → ((f c : ℕ) (y : List ℕ) → m ≡ Some (ShakeMsg.SendName f c y) → Now (Answer.Took (kind_of (Handshake (ShakeMsg.SendName f c y)))) t w)
        → Any o → IfDone (arrive_fresh m t w o) P
    fresh_comes (Some (ShakeMsg.SendName f c y)) w o now g =
        subst (λ z. IfDone z P) (sym (name_as t (ShakeMsg.SendName f c y) w o)) (named w f c y o (now f c y refl) g)
    fresh_comes _ w o now g = is_gone untold o _ g

-- ---- a dialer's name is taken by a new side alone, which answers it

abbrev pub IsName : Answer → Type 0
IsName a = a ≡ Answer.Took Kind.SendName

abbrev pub Nameless : Answer → Work → Type 0
Nameless a o = IsName a → ⊥

other_kind : (i : Item) → handshake_in i ≡ None → IsName (Answer.Took (kind_of i)) → ⊥
other_kind (Handshake m) h e = absurd (none-some m (sym h))
other_kind (Signalled (Signal.Send p m) pay) h e = cc
other_kind (Signalled (Signal.RegSend q name m) pay) h e = cc
other_kind (Signalled _ pay) h e = cc
other_kind _ h e = cc

module _ (t : TrunkId) (v : TrunkSide) (o : Work) where
  no_name_on_status : (u : ℕ) (m : ShakeMsg) → IfDone (awaits_status t v u m o) Nameless
  no_name_on_status u (ShakeMsg.Status Status.Ok) = λ e. cc
  no_name_on_status u (ShakeMsg.Status Status.OkSimultaneous) = λ e. cc
  no_name_on_status u (ShakeMsg.Status Status.Alive) = λ e. cc
  no_name_on_status u _ = λ e. cc

  no_name_on_challenge : (u : ℕ) (m : ShakeMsg) → IfDone (awaits_challenge t v u m o) Nameless
  no_name_on_challenge u (ShakeMsg.Challenge f w c y) = done_either (is_same y v.peer) _ _ Nameless
      (done_either (has_all_of f mandatory) _ _ Nameless (λ e. cc) (λ z e. cc)) (λ z e. cc)
  no_name_on_challenge u _ = λ e. cc

  no_name_on_ack : (u : ℕ) (m : ShakeMsg) → IfDone (awaits_ack t v u m o) Nameless
  no_name_on_ack u (ShakeMsg.ChallengeAck d) = done_either (is_answered o.node.cookie u d) _ _ Nameless (λ e. cc) (λ z e. cc)
  no_name_on_ack u _ = λ e. cc

  no_name_on_answer : (u : ℕ) (m : ShakeMsg) → IfDone (awaits_true t v u m o) Nameless
  no_name_on_answer u (ShakeMsg.Status Status.True) = λ e. cc
  no_name_on_answer u _ = λ e. cc

  no_name_on_reply : (u : ℕ) (m : ShakeMsg) → IfDone (awaits_reply t v u m o) Nameless
  no_name_on_reply u (ShakeMsg.ChallengeReply w d) = done_either (is_answered o.node.cookie u d) _ _ Nameless (λ e. cc) (λ z e. cc)
  no_name_on_reply u _ = λ e. cc

  no_name_by : (a : State) (m : ShakeMsg) → IfDone (handshake_by a t v m o) Nameless
  no_name_by (AwaitsStatus u) m = no_name_on_status u m
  no_name_by (AwaitsChallenge u) m = no_name_on_challenge u m
  no_name_by (AwaitsAck u) m = no_name_on_ack u m
  no_name_by (Asked u) m = no_name_on_answer u m
  no_name_by (Accepting u) m = no_name_on_reply u m
  no_name_by _ m = λ e. cc

  no_name_at : (a : State) (i : Item) → handshake_in i ≡ None → IfDone (signal_at a t v i o) Nameless
  no_name_at Up i h = done_either (is_good o.node v i) _ _ Nameless (other_kind i h) (λ z e. cc)
  no_name_at _ i h = λ e. cc

  pub known_nameless : (m : Option ShakeMsg) (i : Item) → handshake_in i ≡ m → IfDone (arrive_at m t v i o) Nameless
  known_nameless None i h = no_name_at v.state i h
  known_nameless (Some m) i h = subst (λ z. IfDone z Nameless) (sym (handshake_as v.state t v m o)) (no_name_by v.state m)

-- something is sent on the trunk
abbrev pub Tells : TrunkId → Work → Type 0
Tells t o = (y : Name) × (m : ShakeMsg) × Contains o.effects (Effect.Sent (Some t) y (Handshake m))

module _ (t : TrunkId) where
  abbrev pub Opens : Answer → Work → Type 0
  Opens a o = IsName a → Tells t o

  tells : (y : Name) (m : ShakeMsg) (o : Work) → Tells t (write t y m o)
  tells y m o = (y, m, Contains-push o.effects (Effect.Sent (Some t) y (Handshake m)))

  opens_dialing : (d : Option (TrunkId × TrunkSide)) (s : TrunkSide) (w : ℕ) (i : Item) (o : Work) → IfDone (greet_dialing d t s w i o) Opens
  opens_dialing None s w i o = λ e. tells s.peer (challenge o.node w) (write t s.peer (ShakeMsg.Status Status.Ok) (set_state t s (Accepting w) o))
  opens_dialing (Some d) s w i o = done_either (is_gt (name_cmp t.dialer o.node.mint.name)) _ _ Opens
      (λ e. tells s.peer (challenge (give_up (Some d) o).node w)
      (write t s.peer (ShakeMsg.Status Status.OkSimultaneous) (set_state t s (Accepting w) (give_up (Some d) o))))
      (λ z e. tells s.peer (ShakeMsg.Status Status.Nok) (set_state t s Gone o))

  opens_up : (d : Option (TrunkId × TrunkSide)) (s : TrunkSide) (w : ℕ) (i : Item) (o : Work) → IfDone (greet_up d t s w i o) Opens
  opens_up None s w i o = opens_dialing (side_where is_dialing s.peer (fm.entries o.node.sides)) s w i o
  opens_up (Some d) s w i o = λ e. tells s.peer (ShakeMsg.Status Status.Alive) (set_state t s (Asked w) o)

  opens_waiting : (d : Option (TrunkId × TrunkSide)) (s : TrunkSide) (w : ℕ) (i : Item) (o : Work) → IfDone (greet_waiting d t s w i o) Opens
  opens_waiting None s w i o = opens_up (side_where (λ v. is_up v || is_losing v) s.peer (fm.entries o.node.sides)) s w i o
  opens_waiting (Some d) s w i o = done_either (nat_lt d.0.count t.count) _ _ Opens
      (opens_up (side_where (λ v. is_up v || is_losing v) s.peer (fm.entries (give_up (Some d) o).node.sides)) s w i (give_up (Some d) o))
      (λ z e. tells s.peer (ShakeMsg.Status Status.Nok) (set_state t s Gone o))

  pub fresh_opens : (m : Option ShakeMsg) (w : ℕ) (o : Work) → IfDone (arrive_fresh m t w o) Opens
  fresh_opens (Some (ShakeMsg.SendName f c y)) w o = subst (λ z. IfDone z Opens) (sym (name_as t (ShakeMsg.SendName f c y) w o))
      (done_either (is_same y t.dialer) _ _ Opens (done_either (has_all_of f mandatory) _ _ Opens
      (opens_waiting (side_where is_waiting t.dialer (fm.entries o.node.sides)) (record { peer = t.dialer; introduction = introduction_by c f; state = Gone }) w
      (Handshake (ShakeMsg.SendName f c y)) o) (λ z e. cc)) (λ z e. cc))
  fresh_opens _ w o = λ e. cc
