-- The side of an acceptor is up only after the dialer has given its name and replied to the challenge that the
-- acceptor chose then: what each happening keeps.
use Rattle.std.proofs.Common.{◌≡◌, ℕ, Bool, true, false, if◌then◌else◌, List, [], ◌∷◌, Option, Some, None, Contains, refl, sym, subst, ◌∙◌}
use Rattle.std.specs.Cmp.Lexicographic.{bytes_decides}
use Rattle.erl_handshake.specs.declared.fault.ShakeFault.{ShakeFault}
use Rattle.erl_handshake.specs.declared.fault.ShakeFault.TheVariants.{Forged}
use Rattle.erl_names.specs.declared.trunk.TrunkId.{TrunkId}
use Rattle.erl_handshake.specs.declared.status.Status.{Status as TheStatus}
use Rattle.erl_handshake.specs.declared.status.Status.TheVariants as status
use Rattle.erl_handshake.specs.declared.message.ShakeMsg.{ShakeMsg}
use Rattle.erl_handshake.specs.declared.message.ShakeMsg.TheVariants.{SendName, Status, Challenge, ChallengeReply, ChallengeAck}
use Rattle.erl_handshake.specs.declared.identity.Identity.{Identity}
use Rattle.erl_handshake.specs.declared.introduction.Introduction.{Introduction}
use Rattle.erl_handshake.specs.declared.admission.OtherConnections.{OtherConnections}
use Rattle.erl_handshake.specs.declared.acceptor.AcceptorState.TheVariants as acceptor
use Rattle.erl_handshake.specs.Admission.{status_due}
use Rattle.erl_handshake.specs.Roles.{is_same, is_answered, introduction_fault, on_name, introduction_by, on_answer, awaits_reply, after_status}
use Rattle.conn_core.specs.declared.standing.Standing.{Standing}
use Rattle.conn_core.specs.declared.standing.Standing.TheVariants.{Dialing, Accepting, Up, Losing, Gone}
use Rattle.conn_core.specs.declared.side.Side.{Side}
use Rattle.conn_core.specs.Side.{of_acceptor, on_message, admitted_at, gone_on, lost, is_live, state_of}
use Rattle.conn_core.proofs.Within.{Within, within_rest, first_within, within_itself, right_digest, either}
use Rattle.conn_core.specs.Happenings.{Happening, Message, NoMessage, Frame, NoFrame, Admit, GoOn}
use Rattle.conn_core.specs.Happenings.{Lose, Close, standing_after, after, unheard, IsNamed, IsReplied}

abbrev Kept : Identity → List ℕ → List Happening → Standing → Type 0
Kept own peer all (Accepting (acceptor.AwaitsAdmission c introduction)) = IsNamed peer c all
Kept own peer all (Accepting (acceptor.AwaitsAnswer c introduction)) = IsNamed peer c all
Kept own peer all (Accepting (acceptor.AwaitsTurn c introduction)) = IsNamed peer c all
Kept own peer all (Accepting (acceptor.AwaitsReply c introduction)) = IsNamed peer c all
Kept own peer all (Accepting (acceptor.Done introduction)) = ⊥
Kept own peer all (Accepting acceptor.Over) = ⊥
Kept own peer all (Dialing d) = ⊥
Kept own peer all (Up introduction) = IsReplied own peer all
Kept own peer all _ = Unit {0}

-- a name without fault is the peer's
name_is : (peer name : List ℕ) (flags : ℕ) (b : Bool) → is_same name peer ≡ b → introduction_fault peer name flags ≡ None → name ≡ peer
name_is peer name flags true is none = (bytes_decides name peer).0 is
name_is peer name flags false is none =
    let forged : introduction_fault peer name flags ≡ Some Forged = rw is refl in
    let wrong : Some Forged ≡ None = sym forged ∙ none in
    cc

named : (own : Identity) (peer : List ℕ) (all : List Happening) (fault : Option ShakeFault) (flags creation word : ℕ) (name : List ℕ) →
    introduction_fault peer name flags ≡ fault → Contains all (Message (SendName flags creation name) word) →
    Kept own peer all (of_acceptor (on_name fault (introduction_by creation flags) word).state)
named own peer all (Some why) flags creation word name e came = tt
named own peer all None flags creation word name e came =
    record {
      flags = flags;
      creation = creation;
      came = subst (λ (n : List ℕ). Contains all (Message (SendName flags creation n) word)) (name_is peer name flags _ refl e) came;
    }

answered : (own : Identity) (peer : List ℕ) (all : List Happening) (c : ℕ) (introduction : Introduction) (s : TheStatus) → IsNamed peer c all
    → Kept own peer all (of_acceptor (on_answer c introduction s).state)
answered own peer all c introduction status.True n = n
answered own peer all c introduction _ n = tt

chosen_reply : (own : Identity) (c : ℕ) (introduction : Introduction) (theirs : ℕ) (digest : List ℕ) (b : Bool) → is_answered own.cookie c digest ≡ b →
    of_acceptor (awaits_reply own c introduction (ChallengeReply theirs digest)).state
    ≡ of_acceptor (if b then acceptor.Done introduction else acceptor.Over)
chosen_reply own c introduction theirs digest true is = rw is refl
chosen_reply own c introduction theirs digest false is = rw is refl

replied : (own : Identity) (peer : List ℕ) (all : List Happening) (c : ℕ) (introduction : Introduction) (theirs word : ℕ) (digest : List ℕ) (b : Bool)
    → is_answered own.cookie c digest ≡ b → IsNamed peer c all →
    Contains all (Message (ChallengeReply theirs digest) word)
    → Kept own peer all (of_acceptor (if b then acceptor.Done introduction else acceptor.Over))
replied own peer all c introduction theirs word digest true is n came =
    record {
      challenge = c;
      named = n;
      theirs = theirs;
      word = word;
      came = subst (λ (d : List ℕ). Contains all (Message (ChallengeReply theirs d) word)) (right_digest own c c digest refl is) came;
    }
replied own peer all c introduction theirs word digest false is n came = tt

message_keeps : (own : Identity) (peer : List ℕ) (all : List Happening) (st : Standing) (message : ShakeMsg) (word : ℕ) →
    Contains all (Message message word) → Kept own peer all st → Kept own peer all (on_message own peer st message word 0).standing
message_keeps own peer all (Accepting acceptor.AwaitsName) (SendName f k n) word came e =
    named own peer all (introduction_fault peer n f) f k word n refl came
message_keeps own peer all (Accepting (acceptor.AwaitsAnswer c k)) (Status s) word came e = answered own peer all c k s e
message_keeps own peer all (Accepting (acceptor.AwaitsReply c k)) (ChallengeReply t d) word came e =
    subst (Kept own peer all) (sym (chosen_reply own c k t d _ refl)) (replied own peer all c k t word d _ refl e came)
message_keeps own peer all (Accepting (acceptor.Done k)) message word came e = absurd e
message_keeps own peer all (Accepting acceptor.Over) message word came e = absurd e
message_keeps own peer all (Dialing d) message word came e = absurd e
message_keeps own peer all _ _ word came e = tt

lost_keeps : (own : Identity) (peer : List ℕ) (all : List Happening) (st : Standing) → Kept own peer all st → Kept own peer all (lost st)
lost_keeps own peer all (Dialing d) e = tt
lost_keeps own peer all _ e = tt

decided : (own : Identity) (peer : List ℕ) (all : List Happening) (s : TheStatus) (c : ℕ) (introduction : Introduction) → IsNamed peer c all
    → Kept own peer all (of_acceptor (after_status s c introduction))
decided own peer all status.Ok c introduction n = n
decided own peer all status.OkSimultaneous c introduction n = n
decided own peer all status.Alive c introduction n = n
decided own peer all _ c introduction n = tt

admitted_keeps : (own : Identity) (trunk : TrunkId) (peer : List ℕ) (all : List Happening) (st : Standing) (others : OtherConnections)
    → Kept own peer all st → Kept own peer all (admitted_at own.name trunk st others)
admitted_keeps own trunk peer all (Accepting (acceptor.AwaitsAdmission c k)) others e =
    decided own peer all (status_due trunk.dialer own.name trunk.count others) c k e
admitted_keeps own trunk peer all (Accepting (acceptor.Done k)) others e = absurd e
admitted_keeps own trunk peer all (Accepting acceptor.Over) others e = absurd e
admitted_keeps own trunk peer all (Dialing d) others e = absurd e
admitted_keeps own trunk peer all _ others e = e

gone_on_keeps : (own : Identity) (peer : List ℕ) (all : List Happening) (st : Standing) → Kept own peer all st
    → Kept own peer all (gone_on st)
gone_on_keeps own peer all (Accepting (acceptor.Done k)) e = absurd e
gone_on_keeps own peer all (Accepting acceptor.Over) e = absurd e
gone_on_keeps own peer all (Dialing d) e = absurd e
gone_on_keeps own peer all _ e = e

step_keeps : (own : Identity) (s : Side) (all : List Happening) (h : Happening) → Contains all h
    → Kept own s.peer all s.standing → Kept own s.peer all (standing_after own s h)
step_keeps own s all (Message m w) came e = message_keeps own s.peer all s.standing m w came e
step_keeps own s all NoMessage came e = lost_keeps own s.peer all s.standing e
step_keeps own s all (Frame item) came e = e
step_keeps own s all (NoFrame why) came e = lost_keeps own s.peer all s.standing e
step_keeps own s all (Admit others) came e = admitted_keeps own s.trunk s.peer all s.standing others e
step_keeps own s all GoOn came e = gone_on_keeps own s.peer all s.standing e
step_keeps own s all Lose came e =
    either (Kept own s.peer all) (is_live (state_of s.standing)) (lost s.standing) s.standing (lost_keeps own s.peer all s.standing e) e
step_keeps own s all Close came e = tt

run_keeps : (own : Identity) (hs : List Happening) (s : Side) (all : List Happening) → Within hs all
    → Kept own s.peer all s.standing → Kept own s.peer all (after own hs s).standing
run_keeps own [] s all w e = e
run_keeps own (h ∷ hs) s all w e =
    run_keeps own hs (record s { standing = standing_after own s h }) all (within_rest h hs all w)
    (step_keeps own s all h (first_within h hs all w) e)

up_replied : (own : Identity) (peer : List ℕ) (introduction : Introduction) (all : List Happening) (st : Standing) → st ≡ Up introduction
    → Kept own peer all st → IsReplied own peer all
up_replied own peer introduction all st e k = subst (Kept own peer all) e k

pub acceptor_up : (own : Identity) (trunk : TrunkId) (introduction : Introduction) (hs : List Happening)
    → (after own hs (unheard trunk)).standing ≡ Up introduction → IsReplied own trunk.dialer hs
acceptor_up own trunk introduction hs e =
    up_replied own trunk.dialer introduction hs _ e (run_keeps own hs (unheard trunk) hs (within_itself hs) tt)
