-- The side of a dialer is up only after the acceptor has acknowledged its challenge: what each happening keeps.
use Rattle.std.proofs.Common.{◌≡◌, ℕ, Bool, true, false, if◌then◌else◌, List, [], ◌∷◌, Option, Some, None, Contains, refl, sym, subst}
use Rattle.erl_handshake.specs.declared.fault.ShakeFault.{ShakeFault}
use Rattle.erl_names.specs.declared.trunk.TrunkId.{TrunkId}
use Rattle.erl_handshake.specs.declared.status.Status.{Status as TheStatus}
use Rattle.erl_handshake.specs.declared.status.Status.TheVariants as status
use Rattle.erl_handshake.specs.declared.message.ShakeMsg.{ShakeMsg}
use Rattle.erl_handshake.specs.declared.message.ShakeMsg.TheVariants.{SendName, Status, Challenge, ChallengeReply, ChallengeAck}
use Rattle.erl_handshake.specs.declared.identity.Identity.{Identity}
use Rattle.erl_handshake.specs.declared.introduction.Introduction.{Introduction}
use Rattle.erl_handshake.specs.declared.admission.OtherConnections.{OtherConnections}
use Rattle.erl_handshake.specs.declared.dialer.DialerState.TheVariants as dialer
use Rattle.erl_handshake.specs.Roles.{introduction_by, is_answered, introduction_fault, on_status, on_challenge, awaits_ack}
use Rattle.conn_core.specs.declared.standing.Standing.{Standing}
use Rattle.conn_core.specs.declared.standing.Standing.TheVariants.{Dialing, Accepting, Up, Losing, Gone}
use Rattle.conn_core.specs.declared.side.Side.{Side}
use Rattle.conn_core.specs.Side.{of_dialer, on_message, admitted_at, gone_on, lost, is_live, state_of}
use Rattle.conn_core.proofs.Within.{Within, within_rest, first_within, within_itself, right_digest, either}
use Rattle.conn_core.specs.Happenings.{Happening, Message, NoMessage, Frame, NoFrame, Admit, GoOn}
use Rattle.conn_core.specs.Happenings.{Lose, Close, standing_after, after, dialed, IsAcknowledged}

-- ---- the side of a dialer

abbrev DialerKept : Identity → ℕ → List Happening → Standing → Type 0
DialerKept own challenge all (Dialing (dialer.AwaitsStatus c)) = c ≡ challenge
DialerKept own challenge all (Dialing (dialer.AwaitsChallenge c)) = c ≡ challenge
DialerKept own challenge all (Dialing (dialer.AwaitsAck c introduction)) = c ≡ challenge
DialerKept own challenge all (Up introduction) = IsAcknowledged own challenge all
DialerKept own challenge all (Losing introduction) = Unit {0}
DialerKept own challenge all Gone = Unit {0}
DialerKept own challenge all _ = ⊥

dialer_status : (own : Identity) (challenge : ℕ) (all : List Happening) (c : ℕ) (s : TheStatus) → c ≡ challenge
    → DialerKept own challenge all (of_dialer (on_status c s).state)
dialer_status own challenge all c status.Ok e = e
dialer_status own challenge all c status.OkSimultaneous e = e
dialer_status own challenge all c status.Alive e = e
dialer_status own challenge all c _ e = tt

dialer_challenged : (own : Identity) (challenge : ℕ) (all : List Happening) (fault : Option ShakeFault) (c theirs : ℕ) (introduction : Introduction)
    → c ≡ challenge →
    DialerKept own challenge all (of_dialer (on_challenge fault own c theirs introduction).state)
dialer_challenged own challenge all None c theirs introduction e = e
dialer_challenged own challenge all (Some why) c theirs introduction e = tt

dialer_acked : (own : Identity) (challenge : ℕ) (all : List Happening) (c : ℕ) (introduction : Introduction) (word : ℕ) (digest : List ℕ) (b : Bool)
    → is_answered own.cookie c digest ≡ b → c ≡ challenge →
    Contains all (Message (ChallengeAck digest) word) →
    DialerKept own challenge all (of_dialer (if b then dialer.Done introduction else dialer.Over))
dialer_acked own challenge all c introduction word digest true is e came =
    record {
      word = word;
      came = subst (λ (d : List ℕ). Contains all (Message (ChallengeAck d) word)) (right_digest own c challenge digest e is) came;
    }
dialer_acked own challenge all c introduction word digest false is e came = tt

-- the state that the branches of a choice have
abbrev after_ack : Identity → (c : ℕ) (introduction : Introduction) → ShakeMsg → Standing
after_ack own c introduction message = of_dialer (awaits_ack own c introduction message).state

chosen_ack : (own : Identity) (c : ℕ) (introduction : Introduction) (digest : List ℕ) (b : Bool) → is_answered own.cookie c digest ≡ b →
    after_ack own c introduction (ChallengeAck digest) ≡ of_dialer (if b then dialer.Done introduction else dialer.Over)
chosen_ack own c introduction digest true is = rw is refl
chosen_ack own c introduction digest false is = rw is refl

dialer_message : (own : Identity) (peer : List ℕ) (challenge : ℕ) (all : List Happening) (st : Standing) (message : ShakeMsg) (word : ℕ) →
    Contains all (Message message word) → DialerKept own challenge all st
    → DialerKept own challenge all (on_message own peer st message word 0).standing
dialer_message own peer challenge all (Dialing (dialer.AwaitsStatus c)) (Status s) word came e = dialer_status own challenge all c s e
dialer_message own peer challenge all (Dialing (dialer.AwaitsChallenge c)) (Challenge f t k n) word came e =
    dialer_challenged own challenge all (introduction_fault peer n f) c t (introduction_by k f) e
dialer_message own peer challenge all (Dialing (dialer.AwaitsAck c k)) (ChallengeAck d) word came e =
    subst (DialerKept own challenge all) (sym (chosen_ack own c k d _ refl)) (dialer_acked own challenge all c k word d _ refl e came)
dialer_message own peer challenge all (Dialing (dialer.Done k)) message word came e = absurd e
dialer_message own peer challenge all (Dialing dialer.Over) message word came e = absurd e
dialer_message own peer challenge all (Accepting a) message word came e = absurd e
dialer_message own peer challenge all _ _ word came e = tt

dialer_lost : (own : Identity) (challenge : ℕ) (all : List Happening) (st : Standing) → DialerKept own challenge all st
    → DialerKept own challenge all (lost st)
dialer_lost own challenge all (Dialing d) e = tt
dialer_lost own challenge all _ e = tt

-- an acceptor's calls change nothing at a dialer
dialer_admitted : (own : Identity) (o : List ℕ) (trunk : TrunkId) (challenge : ℕ) (all : List Happening) (st : Standing)
    (others : OtherConnections) → DialerKept own challenge all st → DialerKept own challenge all
    (admitted_at o trunk st others)
dialer_admitted own o trunk challenge all (Accepting a) others e = absurd e
dialer_admitted own o trunk challenge all _ others e = e

dialer_gone_on : (own : Identity) (challenge : ℕ) (all : List Happening) (st : Standing) → DialerKept own challenge all st
    → DialerKept own challenge all (gone_on st)
dialer_gone_on own challenge all (Accepting a) e = absurd e
dialer_gone_on own challenge all _ e = e

dialer_step : (own : Identity) (s : Side) (challenge : ℕ) (all : List Happening) (h : Happening) → Contains all h
    → DialerKept own challenge all s.standing →
    DialerKept own challenge all (standing_after own s h)
dialer_step own s challenge all (Message m w) came e = dialer_message own s.peer challenge all s.standing m w came e
dialer_step own s challenge all NoMessage came e = dialer_lost own challenge all s.standing e
dialer_step own s challenge all (Frame item) came e = e
dialer_step own s challenge all (NoFrame why) came e = dialer_lost own challenge all s.standing e
dialer_step own s challenge all (Admit others) came e = dialer_admitted own own.name s.trunk challenge all s.standing others e
dialer_step own s challenge all GoOn came e = dialer_gone_on own challenge all s.standing e
dialer_step own s challenge all Lose came e =
    either (DialerKept own challenge all) (is_live (state_of s.standing)) (lost s.standing) s.standing
    (dialer_lost own challenge all s.standing e) e
dialer_step own s challenge all Close came e = tt

dialer_run : (own : Identity) (hs : List Happening) (s : Side) (challenge : ℕ) (all : List Happening) → Within hs all
    → DialerKept own challenge all s.standing →
    DialerKept own challenge all (after own hs s).standing
dialer_run own [] s challenge all w e = e
dialer_run own (h ∷ hs) s challenge all w e =
    dialer_run own hs (record s { standing = standing_after own s h }) challenge all (within_rest h hs all w)
    (dialer_step own s challenge all h (first_within h hs all w) e)

up_acked : (own : Identity) (challenge : ℕ) (introduction : Introduction) (all : List Happening) (st : Standing) → st ≡ Up introduction
    → DialerKept own challenge all st → IsAcknowledged own challenge all
up_acked own challenge introduction all st e k = subst (DialerKept own challenge all) e k

pub dialer_up : (own : Identity) (trunk : TrunkId) (peer : List ℕ) (challenge : ℕ) (introduction : Introduction) (hs : List Happening)
    → (after own hs (dialed trunk peer challenge)).standing ≡ Up introduction →
    IsAcknowledged own challenge hs
dialer_up own trunk peer challenge introduction hs e =
    up_acked own challenge introduction hs _ e (dialer_run own hs (dialed trunk peer challenge) challenge hs (within_itself hs) refl)
