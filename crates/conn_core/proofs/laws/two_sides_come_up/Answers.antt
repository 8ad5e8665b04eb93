use Rattle.std.proofs.Common.{◌≡◌, ◌<◌, ◌^◌, inl, ℕ, List, [], length, true, Some, Ok, refl, sym, subst, append-nil}
use Rattle.erl_handshake.specs.declared.message.Role.{Role}
use Rattle.erl_handshake.specs.declared.message.Role.TheVariants as role
use Rattle.erl_handshake.specs.declared.message.ShakeMsg.{ShakeMsg}
use Rattle.erl_handshake.specs.declared.message.ShakeMsg.TheVariants.{Status, ChallengeReply, ChallengeAck}
use Rattle.erl_handshake.specs.declared.status.Status.TheVariants as status
use Rattle.erl_handshake.specs.declared.dialer.DialerState.TheVariants as dialer
use Rattle.erl_handshake.specs.declared.acceptor.AcceptorState.TheVariants as acceptor
use Rattle.erl_handshake.specs.declared.identity.Identity.{Identity}
use Rattle.erl_handshake.specs.Digest.{digest_of}
use Rattle.erl_handshake.specs.Messages.{HasFields, IsFor, written}
use Rattle.erl_handshake.specs.Answer.{IsShakeDue}
use Rattle.erl_handshake.specs.Roles.{send_name, challenge_of, introduction_of, is_answered}
use Rattle.conn_core.specs.declared.standing.Standing.TheVariants.{Dialing, Accepting, Up}
use Rattle.conn_core.specs.Meeting.{CanConnect, Meeting}
use Rattle.conn_core.proofs.laws.two_sides_come_up.Goals as goal

pub returns : goal.returns
returns c = meets
  where
    -- what was written is read
    at : (reader : Role) (m : ShakeMsg) → IsFor reader m → HasFields m → IsShakeDue reader (written m) (Ok (Some (m, length (written m))))
    at reader m is_for fields =
        subst (λ (bytes : List ℕ). IsShakeDue reader bytes (Ok (Some (m, length (written m))))) (append-nil (written m))
        (c.read_again.ensures reader m (written m) [] (c.written_is_shake.ensures reader m is_for fields))

    -- what is answered over a shared cookie is right
    right : (own peer : List ℕ) (challenge : ℕ) → own ≡ peer → is_answered own challenge (digest_of peer challenge) ≡ true
    right own peer challenge e = rw e (c.right_peers_pass.ensures.answered peer challenge)

    meets : (dialing accepting : Identity) (count challenge word : ℕ) → CanConnect dialing → CanConnect accepting
        → dialing.cookie ≡ accepting.cookie → challenge < 2 ^ 32 → word < 2 ^ 32 →
        Meeting dialing accepting count challenge word (Up (introduction_of accepting)) (Up (introduction_of dialing))
    meets dialing accepting count challenge word d a e small fresh =
        let name = send_name dialing in
        let asks = challenge_of accepting word in
        let reply = ChallengeReply challenge (digest_of dialing.cookie word) in
        let ack = ChallengeAck (digest_of accepting.cookie challenge) in
        let digest = c.digests.ensures.length in
        let welcome = c.right_peers_pass.ensures.introduced in
        record {
          named = Accepting (acceptor.AwaitsAdmission word (introduction_of dialing));
          told = Dialing (dialer.AwaitsChallenge challenge);
          replied = Dialing (dialer.AwaitsAck challenge (introduction_of accepting));
          reply = reply;
          acknowledgement = ack;
          hears_name = record {
            len = length (written name);
            due =
                inl (name, length (written name), at role.Acceptor name refl d.fits, rw (welcome dialing.name dialing.flags d.offers) refl);
          };
          hears_status = record {
            len = length (written (Status status.Ok));
            due = inl (Status status.Ok, length (written (Status status.Ok)), at role.Dialer (Status status.Ok) tt tt, refl);
          };
          hears_challenge = record {
            len = length (written asks);
            due = inl (
              asks,
              length (written asks),
              at role.Dialer asks refl (a.fits.0, fresh, a.fits.1, a.fits.2),
              rw (welcome accepting.name accepting.flags a.offers) refl,
            );
          };
          hears_reply = record {
            len = length (written reply);
            due = inl (
              reply,
              length (written reply),
              at role.Acceptor reply tt (small, digest dialing.cookie word),
              rw (right accepting.cookie dialing.cookie word (sym e)) refl,
            );
          };
          hears_acknowledgement = record {
            len = length (written ack);
            due = inl (
              ack,
              length (written ack),
              at role.Dialer ack tt (digest accepting.cookie challenge),
              rw (right dialing.cookie accepting.cookie challenge e) refl,
            );
          };
        }
