-- What a message of the handshake does to a side, in the node's words and in the model's.
use Rattle.std.proofs.Common.{◌≡◌, ℕ, Bool, true, false, cond, Option, None, refl, sym, ap, ◌∙◌, subst}
use Rattle.std.specs.FinMap as fm
use Rattle.conn_core.specs.Side.{of_acceptor, of_dialer, on_message, taken_by}
use Rattle.conn_core.specs.declared.arrival.Fault.{Fault}
use Rattle.conn_core.specs.declared.arrival.Taken.{Taken}
use Rattle.conn_core.specs.declared.arrival.Taken.TheVariants as taken
use Rattle.conn_core.specs.declared.standing.Standing.{Standing}
use Rattle.conn_core.specs.declared.standing.Standing.TheVariants as standing
use Rattle.dist_model.specs.Commands.{Accepts, Outcome}
use Rattle.dist_model.specs.Handshake.{acceptor_side, after_answer, dialer_side, fault, handshake_at, identity}
use Rattle.dist_model.specs.Handshake.{on_verdict, send_challenge_or_park, up_is_lost, with_side, write_if}
use Rattle.dist_model.specs.Items.{Handshake, kind_of}
use Rattle.dist_model.specs.Keeping.{is_engaged}
use Rattle.dist_model.specs.Names.{Name}
use Rattle.dist_model.specs.Node.{side_where}
use Rattle.dist_model.specs.Sides.{AwaitsChallenge, AwaitsStatus, State, TrunkSide, is_gone, is_up}
use Rattle.dist_model.specs.Work.{Work}
use Rattle.dist_model.specs.declared.report.Answer.{Answer}
use Rattle.erl_control.specs.declared.signal.Item.{Item}
use Rattle.erl_handshake.specs.Roles.{acceptor_turn, awaits_ack, awaits_reply, dialer_turn, is_answered}
use Rattle.erl_handshake.specs.declared.acceptor.AcceptorState.TheVariants as acceptor
use Rattle.erl_handshake.specs.declared.dialer.DialerState.{DialerState}
use Rattle.erl_handshake.specs.declared.dialer.DialerState.TheVariants as dialer
use Rattle.erl_handshake.specs.declared.fault.ShakeFault.{ShakeFault}
use Rattle.erl_handshake.specs.declared.identity.Identity.{Identity}
use Rattle.erl_handshake.specs.declared.message.ShakeMsg.{ShakeMsg}
use Rattle.erl_handshake.specs.declared.turn.Progress.{Progress}
use Rattle.erl_handshake.specs.declared.turn.Progress.TheVariants as progress
use Rattle.erl_names.specs.declared.trunk.TrunkId.{TrunkId}
use Rattle.node_connections.proofs.Stood.{not_gone_engaged}
use Rattle.node_connections.specs.Waiting.{asked_in}
use Rattle.node_tables.specs.Standings.{is_settled, standing_side, state_of}
use Rattle.erl_handshake.specs.declared.introduction.Introduction.{Introduction}
use Rattle.dist_model.specs.Sides.{untold}

-- ---- whether the handshake goes on

abbrev pub went_on : TrunkId → Name → TrunkSide → ShakeMsg → Option ShakeMsg → Work → Outcome
went_on t y new said send work = Accepts (Answer.Took (kind_of (Handshake said))) (write_if t y send (with_side t new work))

verdict_goes : (p : Progress) (t : TrunkId) (old new : TrunkSide) (message said : ShakeMsg) (sent send : Option ShakeMsg) (work : Work)
    → taken_by p message sent ≡ taken.Message said send → on_verdict p t old new message sent work ≡ went_on t old.peer new said send work
verdict_goes progress.Go t old new message said sent send work h =
    let a : message ≡ said = cc in let b : sent ≡ send = cc in (λ i. went_on t old.peer new (a i) (b i) work)
verdict_goes progress.Done t old new message said sent send work h =
    let a : message ≡ said = cc in let b : sent ≡ send = cc in (λ i. went_on t old.peer new (a i) (b i) work)
verdict_goes (progress.Ended why) t old new message said sent send work h = cc

verdict_breaks : (p : Progress) (t : TrunkId) (old new : TrunkSide) (message : ShakeMsg) (sent : Option ShakeMsg)
    (why : Fault) (work : Work)
    → taken_by p message sent ≡ taken.Broken why → on_verdict p t old new message sent work ≡ fault why t old work
verdict_breaks progress.Go t old new message sent why work h = cc
verdict_breaks progress.Done t old new message sent why work h = cc
verdict_breaks (progress.Ended e) t old new message sent why work h = let a : Fault.Shake e ≡ why = cc in ap (λ f. fault f t old work) a

answer_goes : (p : Progress) (t : TrunkId) (side : TrunkSide) (w : ℕ) (message said : ShakeMsg) (sent send : Option ShakeMsg) (work : Work)
    → taken_by p message sent ≡ taken.Message said send
    → after_answer p t side w message work ≡ Accepts (Answer.Took (kind_of (Handshake said)))
    (send_challenge_or_park t side w (up_is_lost (side_where is_up side.peer (fm.entries work.node.sides)) work))
answer_goes progress.Go t side w message said sent send work h =
    let a : message ≡ said = cc in ap (λ x. after_answer progress.Go t side w x work) a
answer_goes progress.Done t side w message said sent send work h =
    let a : message ≡ said = cc in ap (λ x. after_answer progress.Done t side w x work) a
answer_goes (progress.Ended why) t side w message said sent send work h = cc

answer_breaks : (p : Progress) (t : TrunkId) (side : TrunkSide) (w : ℕ) (message : ShakeMsg) (sent : Option ShakeMsg)
    (why : Fault) (work : Work)
    → taken_by p message sent ≡ taken.Broken why → after_answer p t side w message work ≡ fault why t side work
answer_breaks progress.Go t side w message sent why work h = cc
answer_breaks progress.Done t side w message sent why work h = cc
answer_breaks (progress.Ended e) t side w message sent why work h = let a : Fault.Shake e ≡ why = cc in ap (λ f. fault f t side work) a

taken_no_item : (p : Progress) (message : ShakeMsg) (sent : Option ShakeMsg) (item : Item) → taken_by p message sent ≡ taken.Item item → ⊥
taken_no_item progress.Go message sent item h = cc
taken_no_item _ message sent item h = cc

-- ---- how the side stands after it

dialer_stands : (y : Name) (was : State) (d : DialerState)
    → standing_side y (of_dialer d) ≡ dialer_side (record { peer = y; introduction = untold; state = was }) d
dialer_stands y was (dialer.AwaitsStatus w) = refl
dialer_stands y was d = refl

dialer_settled : (d : DialerState) → is_settled (of_dialer d) ≡ true
dialer_settled (dialer.AwaitsStatus w) = refl
dialer_settled d = refl

ack_stands : (own : Identity) (y : Name) (w : ℕ) (introduction : Introduction) (message : ShakeMsg)
    → standing_side y (of_dialer (awaits_ack own w introduction message).state)
    ≡ dialer_side (standing_side y (standing.Dialing (dialer.AwaitsAck w introduction))) (awaits_ack own w introduction message).state
ack_stands own y w introduction (ShakeMsg.ChallengeAck digest) = go (is_answered own.cookie w digest) refl
  where
    turn : Bool → DialerState
    turn b = cond b (dialer.Done introduction) dialer.Over

    side : TrunkSide
    side = standing_side y (standing.Dialing (dialer.AwaitsAck w introduction))

    go : (b : Bool) → is_answered own.cookie w digest ≡ b
        → standing_side y (of_dialer (awaits_ack own w introduction (ShakeMsg.ChallengeAck digest)).state)
        ≡ dialer_side side (awaits_ack own w introduction (ShakeMsg.ChallengeAck digest)).state
    go true e = rw e refl
    go false e = rw e refl
ack_stands own y w introduction message = refl

pub record Settles (own : Identity) (y : Name) (w : ℕ) (introduction : Introduction) (message : ShakeMsg) : Type 0 where
  pub settled : is_settled (of_acceptor (awaits_reply own w introduction message).state) ≡ true
  pub stands : standing_side y (of_acceptor (awaits_reply own w introduction message).state)
      ≡ acceptor_side (standing_side y (standing.Accepting (acceptor.AwaitsReply w introduction))) (awaits_reply own w introduction message).state

reply_settles : (own : Identity) (y : Name) (w : ℕ) (introduction : Introduction) (message : ShakeMsg) → Settles own y w introduction message
reply_settles own y w introduction (ShakeMsg.ChallengeReply challenge digest) = go (is_answered own.cookie w digest) refl
  where
    go : (b : Bool) → is_answered own.cookie w digest ≡ b → Settles own y w introduction (ShakeMsg.ChallengeReply challenge digest)
    go true e = record { settled = rw e refl; stands = rw e refl }
    go false e = record { settled = rw e refl; stands = rw e refl }
reply_settles own y w introduction message = record { settled = refl; stands = refl }

-- ---- a message that is due

pub record Goes (t : TrunkId) (y : Name) (st new : Standing) (message said : ShakeMsg) (send : Option ShakeMsg) (work : Work) : Type 0 where
  pub settled : is_settled new ≡ true
  pub there : is_gone (state_of st) ≡ false
  pub engaged : is_up (state_of new) ≡ true → is_engaged (state_of st) ≡ true
  pub goes : handshake_at (state_of st) t (standing_side y st) message work ≡ went_on t y (standing_side y new) said send work

module _ (t : TrunkId) (y : Name) (message said : ShakeMsg) (word len : ℕ) (send : Option ShakeMsg) (work : Work) where
  abbrev own : Identity
  own = identity work.node

  abbrev due : Standing → Standing
  due st = (on_message own y st message word len).standing

  pub goes_dialing : (d : DialerState) → let turn = dialer_turn own y d message in
      handshake_at (state_of (standing.Dialing d)) t (standing_side y (standing.Dialing d)) message work
      ≡ on_verdict turn.next.progress t (standing_side y (standing.Dialing d))
      (dialer_side (standing_side y (standing.Dialing d)) turn.state) message turn.next.send work
      → standing_side y (of_dialer turn.state) ≡ dialer_side (standing_side y (standing.Dialing d)) turn.state
      → taken_by turn.next.progress message turn.next.send ≡ taken.Message said send → is_engaged (state_of (standing.Dialing d)) ≡ true
      → Goes t y (standing.Dialing d) (of_dialer turn.state) message said send work
  goes_dialing d at stands h e =
      let turn = dialer_turn own y d message in
      record {
        settled = dialer_settled turn.state;
        there = not_gone_engaged _ e;
        engaged = λ u. e;
        goes = at ∙ verdict_goes turn.next.progress t (standing_side y (standing.Dialing d))
            (dialer_side (standing_side y (standing.Dialing d)) turn.state) message said turn.next.send send work h
            ∙ ap (λ s. went_on t y s said send work) (sym stands);
      }

  pub heard_goes : (st : Standing) → is_settled st ≡ true → asked_in st ≡ None
      → (on_message own y st message word len).was ≡ taken.Message said send → Goes t y st (due st) message said send work
  heard_goes (standing.Dialing (dialer.AwaitsStatus w)) k a h =
      goes_dialing (dialer.AwaitsStatus w) refl
      (dialer_stands y (AwaitsStatus w) (dialer_turn own y (dialer.AwaitsStatus w) message).state) h refl
  heard_goes (standing.Dialing (dialer.AwaitsChallenge w)) k a h =
      goes_dialing (dialer.AwaitsChallenge w) refl
      (dialer_stands y (AwaitsChallenge w) (dialer_turn own y (dialer.AwaitsChallenge w) message).state) h refl
  heard_goes (standing.Dialing (dialer.AwaitsAck w introduction)) k a h =
      goes_dialing (dialer.AwaitsAck w introduction) refl (ack_stands own y w introduction message) h refl
  heard_goes (standing.Accepting (acceptor.AwaitsReply w introduction)) k a h =
      let turn = acceptor_turn own y (acceptor.AwaitsReply w introduction) message 0 in
      let side = standing_side y (standing.Accepting (acceptor.AwaitsReply w introduction)) in
      let s = reply_settles own y w introduction message in
      record {
        settled = s.settled;
        there = refl;
        engaged = λ u. refl;
        goes = verdict_goes turn.next.progress t side (acceptor_side side turn.state) message said turn.next.send send work h
            ∙ ap (λ s. went_on t y s said send work) (sym s.stands);
      }
  heard_goes st k a h = cc

  pub asked_goes : (w : ℕ) (introduction : Introduction) → let st = standing.Accepting (acceptor.AwaitsAnswer w introduction) in
      (on_message own y st message word len).was ≡ taken.Message said send
      → handshake_at (state_of st) t (standing_side y st) message work ≡ Accepts (Answer.Took (kind_of (Handshake said)))
      (send_challenge_or_park t (standing_side y st) w (up_is_lost (side_where is_up y (fm.entries work.node.sides)) work))
  asked_goes w introduction h =
      let turn = acceptor_turn own y (acceptor.AwaitsAnswer w introduction) message 0 in
      answer_goes turn.next.progress t
      (standing_side y (standing.Accepting (acceptor.AwaitsAnswer w introduction))) w message said turn.next.send send work h

  pub asked_heard : (st : Standing) (w : ℕ) (introduction : Introduction) → st ≡ standing.Accepting (acceptor.AwaitsAnswer w introduction)
      → (on_message own y st message word len).was ≡ taken.Message said send
      → handshake_at (state_of st) t (standing_side y st) message work ≡ Accepts (Answer.Took (kind_of (Handshake said)))
      (send_challenge_or_park t (standing_side y (standing.Accepting (acceptor.AwaitsAnswer w introduction))) w
      (up_is_lost (side_where is_up y (fm.entries work.node.sides)) work))
  asked_heard st w introduction e h =
      let P : Standing → Type 0 = λ x. (on_message own y x message word len).was ≡ taken.Message said send in
      ap (λ x. handshake_at (state_of x) t (standing_side y x) message work) e ∙ asked_goes w introduction (subst P e h)

-- ---- and one that breaks the side

module _ (t : TrunkId) (y : Name) (message : ShakeMsg) (word len : ℕ) (work : Work) where
  abbrev here : Identity
  here = identity work.node

  abbrev hears : Standing → Outcome
  hears st = handshake_at (state_of st) t (standing_side y st) message work

  bad : (st : Standing) (why : Fault) → ◌≡◌ {A = Taken} (taken.Broken (Fault.Shake ShakeFault.BadMessage)) (taken.Broken why)
      → fault (Fault.Shake ShakeFault.BadMessage) t (standing_side y st) work ≡ fault why t (standing_side y st) work
  bad st why h = let a : Fault.Shake ShakeFault.BadMessage ≡ why = cc in ap (λ f. fault f t (standing_side y st) work) a

  pub heard_breaks : (st : Standing) (why : Fault) → is_settled st ≡ true
      → (on_message here y st message word len).was ≡ taken.Broken why → hears st ≡ fault why t (standing_side y st) work
  heard_breaks (standing.Dialing (dialer.AwaitsStatus w)) why k h =
      let turn = dialer_turn here y (dialer.AwaitsStatus w) message in let s = standing_side y (standing.Dialing (dialer.AwaitsStatus w)) in
      verdict_breaks turn.next.progress t s (dialer_side s turn.state) message turn.next.send why work h
  heard_breaks (standing.Dialing (dialer.AwaitsChallenge w)) why k h =
      let turn =
      dialer_turn here y (dialer.AwaitsChallenge w) message in let s = standing_side y (standing.Dialing (dialer.AwaitsChallenge w)) in
      verdict_breaks turn.next.progress t s (dialer_side s turn.state) message turn.next.send why work h
  heard_breaks (standing.Dialing (dialer.AwaitsAck w introduction)) why k h =
      let turn =
      dialer_turn here y (dialer.AwaitsAck w introduction) message in
      let s = standing_side y (standing.Dialing (dialer.AwaitsAck w introduction)) in
      verdict_breaks turn.next.progress t s (dialer_side s turn.state) message turn.next.send why work h
  heard_breaks (standing.Accepting (acceptor.AwaitsAnswer w introduction)) why k h =
      let turn = acceptor_turn here y (acceptor.AwaitsAnswer w introduction) message 0 in
      answer_breaks turn.next.progress t
      (standing_side y (standing.Accepting (acceptor.AwaitsAnswer w introduction))) w message turn.next.send why work h
  heard_breaks (standing.Accepting (acceptor.AwaitsTurn w introduction)) why k h =
      bad (standing.Accepting (acceptor.AwaitsTurn w introduction)) why h
  heard_breaks (standing.Accepting (acceptor.AwaitsReply w introduction)) why k h =
      let turn =
      acceptor_turn here y (acceptor.AwaitsReply w introduction) message 0 in
      let s = standing_side y (standing.Accepting (acceptor.AwaitsReply w introduction)) in
      verdict_breaks turn.next.progress t s (acceptor_side s turn.state) message turn.next.send why work h
  heard_breaks (standing.Up introduction) why k h = bad (standing.Up introduction) why h
  heard_breaks (standing.Losing introduction) why k h = bad (standing.Losing introduction) why h
  heard_breaks standing.Gone why k h = bad standing.Gone why h
  heard_breaks st why k h = cc

  pub heard_no_item : (st : Standing) (item : Item) → (on_message here y st message word len).was ≡ taken.Item item → ⊥
  heard_no_item (standing.Dialing d) item h =
      let turn = dialer_turn here y d message in taken_no_item turn.next.progress message turn.next.send item h
  heard_no_item (standing.Accepting a) item h =
      let turn = acceptor_turn here y a message word in taken_no_item turn.next.progress message turn.next.send item h
  heard_no_item _ item h = cc

pub broken_same : (a b : Fault) → taken.Broken a ≡ taken.Broken b → a ≡ b
broken_same a b h = cc
