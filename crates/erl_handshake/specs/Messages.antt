-- The messages of the handshake as bytes. Numbers have their highest byte first.
-- (ERTS User's Guide, Distribution Protocol, Distribution Handshake.)
use Rattle.std.specs.Prelude.{◌≡◌, ℕ, ◌<◌, ◌^◌, List, [], ◌∷◌, ◌++◌, length, codes}
use Rattle.std.specs.Int.{to_be_bytes, w16, w32, w64}
use Rattle.erl_names.specs.Name.{IsNodeName}
use Rattle.erl_handshake.specs.declared.status.Status.{Status as TheStatus}
use Rattle.erl_handshake.specs.declared.status.Status.TheVariants as status
use Rattle.erl_handshake.specs.declared.message.Role.{Role}
use Rattle.erl_handshake.specs.declared.message.Role.TheVariants.{Dialer, Acceptor}
use Rattle.erl_handshake.specs.declared.message.ShakeMsg.{ShakeMsg}
use Rattle.erl_handshake.specs.declared.message.ShakeMsg.TheVariants.{SendName, Status, Challenge, ChallengeReply, ChallengeAck}

abbrev pub status_text : TheStatus → List ℕ
status_text status.Ok = codes "ok"
status_text status.OkSimultaneous = codes "ok_simultaneous"
status_text status.Nok = codes "nok"
status_text status.NotAllowed = codes "not_allowed"
status_text status.Alive = codes "alive"
status_text status.True = codes "true"
status_text status.False = codes "false"

-- bytes behind their length in two bytes
abbrev pub counted : List ℕ → List ℕ
counted bytes = to_be_bytes w16 (length bytes) ++ bytes

-- the table: the letter N, s, r or a, and the fields
abbrev pub content : ShakeMsg → List ℕ
content (SendName flags creation name) = 78 ∷ (to_be_bytes w64 flags ++ (to_be_bytes w32 creation ++ counted name))
content (Status s) = 115 ∷ status_text s
content (Challenge flags challenge creation name) =
    78 ∷ (to_be_bytes w64 flags ++ (to_be_bytes w32 challenge ++ (to_be_bytes w32 creation ++ counted name)))
content (ChallengeReply challenge digest) = 114 ∷ (to_be_bytes w32 challenge ++ digest)
content (ChallengeAck digest) = 97 ∷ digest

-- what the fields can hold
abbrev pub HasFields : ShakeMsg → Type 0
HasFields (SendName flags creation name) = (flags < 2 ^ 64) × (creation < 2 ^ 32) × IsNodeName name
HasFields (Status s) = Unit {0}
HasFields (Challenge flags challenge creation name) = (flags < 2 ^ 64) × (challenge < 2 ^ 32) × (creation < 2 ^ 32) × IsNodeName name
HasFields (ChallengeReply challenge digest) = (challenge < 2 ^ 32) × (length digest ≡ 16)
HasFields (ChallengeAck digest) = length digest ≡ 16

-- who reads it: N begins a send_name for an acceptor, and a challenge for a dialer
abbrev pub IsFor : Role → ShakeMsg → Type 0
IsFor role (SendName flags creation name) = role ≡ Acceptor
IsFor role (Status s) = Unit {0}
IsFor role (Challenge flags challenge creation name) = role ≡ Dialer
IsFor role (ChallengeReply challenge digest) = Unit {0}
IsFor role (ChallengeAck digest) = Unit {0}

-- what may follow it: anything behind a name, which is passed over, and nothing behind the others
abbrev pub MayFollow : ShakeMsg → List ℕ → Type 0
MayFollow (SendName flags creation name) rest = Unit {0}
MayFollow (Status s) rest = rest ≡ []
MayFollow (Challenge flags challenge creation name) rest = Unit {0}
MayFollow (ChallengeReply challenge digest) rest = rest ≡ []
MayFollow (ChallengeAck digest) rest = rest ≡ []

-- the bytes behind the length
pub record IsBody (role : Role) (message : ShakeMsg) (body : List ℕ) : Type 0 where
  pub rest : List ℕ
  pub has_fields : HasFields message
  pub is_for : IsFor role message
  pub may_follow : MayFollow message rest
  pub parts : body ≡ content message ++ rest

-- the whole message
pub record IsShake (role : Role) (message : ShakeMsg) (bytes : List ℕ) : Type 0 where
  pub body : List ℕ
  pub is_body : IsBody role message body
  pub short : length body < 2 ^ 16
  pub parts : bytes ≡ counted body

-- the bytes that are written, with nothing behind a name
abbrev pub written : ShakeMsg → List ℕ
written message = counted (content message)
