-- Handshake messages as numbers and places.
-- (ERTS User's Guide, Distribution Protocol, Distribution Handshake.)
use Rattle.std.specs.Prelude.{◌≡◌, ℕ, ◌+◌, ◌≤◌, ◌==◌, if◌then◌else◌, List, ◌∷◌, Option, Some, None, MatchOption, Result, Ok, Err, length, take}
use Rattle.erl_term.specs.declared.refusal.Refusal.{Refusal}
use Rattle.erl_term.specs.ErrorNumbers.{refusal_number}
use Rattle.erl_handshake.specs.declared.status.Status.{Status as TheStatus}
use Rattle.erl_handshake.specs.declared.status.Status.TheVariants as status
use Rattle.erl_handshake.specs.declared.message.Role.{Role}
use Rattle.erl_handshake.specs.declared.message.Role.TheVariants.{Dialer, Acceptor}
use Rattle.erl_handshake.specs.declared.message.ShakeMsg.{ShakeMsg}
use Rattle.erl_handshake.specs.declared.message.ShakeMsg.TheVariants.{SendName, Status, Challenge, ChallengeReply, ChallengeAck}
use Rattle.erl_handshake.specs.Messages.{IsBody}
use Rattle.c_library.specs.declared.messages.ErldistMessage.{ErldistMessage}
use Rattle.c_library.specs.Parts.{bytes_at}

-- who reads: 0 for an acceptor, and any other number for a dialer
abbrev pub role_of : ℕ → Role
role_of n = if n == 0 then Acceptor else Dialer

abbrev pub status_number : TheStatus → ℕ
status_number status.Ok = 1
status_number status.OkSimultaneous = 2
status_number status.Nok = 3
status_number status.NotAllowed = 4
status_number status.Alive = 5
status_number status.True = 6
status_number status.False = 7

abbrev pub status_by : ℕ → Option TheStatus
status_by n =
    if n == 1 then Some status.Ok
    else (if n == 2 then Some status.OkSimultaneous
    else (if n == 3 then Some status.Nok
    else (if n == 4 then Some status.NotAllowed
    else (if n == 5 then Some status.Alive
    else (if n == 6 then Some status.True
    else (if n == 7 then Some status.False
    else None))))))

abbrev pub status_message : Option TheStatus → Option ShakeMsg
status_message None = None
status_message (Some s) = Some (Status s)

-- the message of this kind and these numbers, with this name
abbrev pub message_of : ErldistMessage → List ℕ → Option ShakeMsg
message_of m name =
    if m.kind == 1 then Some (SendName m.flags m.creation name)
    else (if m.kind == 2 then status_message (status_by m.status)
    else (if m.kind == 3 then Some (Challenge m.flags m.challenge m.creation name)
    else (if m.kind == 4 then Some (ChallengeReply m.challenge m.digest)
    else (if m.kind == 5 then Some (ChallengeAck m.digest)
    else None))))

-- the message as numbers and places, of which these are the bytes
pub record IsTold (bytes : List ℕ) (message : ShakeMsg) (m : ErldistMessage) : Type 0 where
  pub size : m.length ≡ length bytes
  pub within : m.name.offset + m.name.length ≤ length bytes
  pub says : message_of m (bytes_at m.name bytes) ≡ Some message

-- nothing is told
abbrev pub IsUntold : ErldistMessage → Type 0
IsUntold m = (m.length ≡ 0) × (m.kind ≡ 0)

-- an answer as the number of its fault or 0, and a message
abbrev pub IsAnswer : List ℕ → Result (Option (ShakeMsg × ℕ)) Refusal → ℕ × ErldistMessage → Type 0
IsAnswer bytes (Ok None) told = (told.0 ≡ 0) × IsUntold told.1
IsAnswer bytes (Ok (Some x)) told = (told.0 ≡ 0) × IsTold (take x.1 bytes) x.0 told.1
IsAnswer bytes (Err e) told = (told.0 ≡ refusal_number e) × IsUntold told.1

-- ---- the readers of bodies

-- the same of a body, with two bytes of length before it. The length isn't told yet
pub record IsToldOfBody (body : List ℕ) (message : ShakeMsg) (m : ErldistMessage) : Type 0 where
  pub within : m.name.offset + m.name.length ≤ length body + 2
  pub says : (a b : ℕ) → message_of m (bytes_at m.name (a ∷ b ∷ body)) ≡ Some message

abbrev pub ReadsMessage : Role → List ℕ → Option ErldistMessage → Type 0
ReadsMessage role body answer = MatchOption answer ((message : ShakeMsg) → ¬ IsBody role message body)
    (λ m. (message : ShakeMsg) × IsBody role message body × IsToldOfBody body message m)

-- to a reader of either role
abbrev pub ReadsNameless : List ℕ → Option ErldistMessage → Type 0
ReadsNameless body answer = MatchOption answer ((role : Role) (message : ShakeMsg) → ¬ IsBody role message body)
    (λ m. (message : ShakeMsg) × ((role : Role) → IsBody role message body) × IsToldOfBody body message m)
