-- A handshake message that is written into a buffer.
-- (ERTS User's Guide, Distribution Protocol, Distribution Handshake.)
use Rattle.std.specs.Prelude.{◌≡◌, ℕ, ◌<◌, ◌≤◌, List, Some, length, take, drop}
use Rattle.erl_handshake.specs.declared.message.ShakeMsg.{ShakeMsg}
use Rattle.erl_handshake.specs.declared.message.ShakeMsg.TheVariants.{SendName, Status, Challenge, ChallengeReply, ChallengeAck}
use Rattle.erl_handshake.specs.Messages.{HasFields, written}
use Rattle.c_library.specs.declared.messages.ErldistMessage.{ErldistMessage}
use Rattle.c_library.specs.declared.saying.Shake.{Shake}
use Rattle.c_library.specs.declared.saying.Shake.TheVariants as shake
use Rattle.c_library.specs.Messages.{message_of}

-- the numbers and the name are those of this message
abbrev pub IsSayable : ErldistMessage → List ℕ → ShakeMsg → Type 0
IsSayable m name message = (message_of m name ≡ Some message) × HasFields message

-- how the call ends: its result, the size that it tells, and the buffer
pub record IsSaid (m : ErldistMessage) (name old : List ℕ) (result size : ℕ) (new : List ℕ) : Type 0 where
  -- the kind or the status is none, or the name is that of no node
  pub refused : ((message : ShakeMsg) → ¬ IsSayable m name message) → (result ≡ 10) × (size ≡ 0) × (new ≡ old)
  -- else the size is that of the message, also where there is no room for it
  pub size_is : (message : ShakeMsg) → IsSayable m name message → size ≡ length (written message)
  pub no_room : (message : ShakeMsg) → IsSayable m name message → length old < size → (result ≡ 100) × (new ≡ old)
  pub said : (message : ShakeMsg) → IsSayable m name message → size ≤ length old
      → (result ≡ 0) × (take size new ≡ written message) × (drop size new ≡ drop size old)

-- the message whose name is borrowed
abbrev pub shake_in : Shake → ShakeMsg
shake_in (shake.SendName flags creation name) = SendName flags creation name.now
shake_in (shake.Status s) = Status s
shake_in (shake.Challenge flags challenge creation name) = Challenge flags challenge creation name.now
shake_in (shake.ChallengeReply challenge digest) = ChallengeReply challenge digest
shake_in (shake.ChallengeAck digest) = ChallengeAck digest
