-- The parts of a message that take a test of their own.
-- (ERTS User's Guide, Distribution Protocol, Distribution Handshake.)
use Rattle.std.specs.Prelude.{◌≡◌, ◌≤◌, ◌==◌, ◌&&◌, ◌||◌, ℕ, suc, Bool, List, ◌++◌, length, take}
use Rattle.std.specs.Str.{bytes_eq}
use Rattle.readers.specs.Reading.{AreBytes}
use Rattle.erl_names.specs.Name.{IsNodeName}
use Rattle.erl_handshake.specs.Reading.{BeginsWithName}
use Rattle.erl_handshake.specs.declared.status.Status.{Status}
use Rattle.erl_handshake.specs.declared.status.Status.TheVariants as status
use Rattle.erl_handshake.specs.declared.message.Role.{Role}
use Rattle.erl_handshake.specs.declared.message.Role.TheVariants.{Dialer, Acceptor}
use Rattle.erl_handshake.specs.declared.message.ShakeMsg.{ShakeMsg}
use Rattle.erl_handshake.specs.Messages.{status_text, IsBody}

-- a node name of so many bytes, and nothing behind it
pub record IsNameOf (len : ℕ) (name text : List ℕ) : Type 0 where
  pub is_name : IsNodeName name
  pub len_is : length name ≡ len
  pub parts : text ≡ name

-- a node name of so many bytes, and then anything
pub record IsNameInFront (len : ℕ) (name text : List ℕ) : Type 0 where
  pub rest : List ℕ
  pub is_name : IsNodeName name
  pub len_is : length name ≡ len
  pub parts : text ≡ name ++ rest

-- a node name of so many bytes at most behind its length, and then anything
pub record IsCountedName (most : ℕ) (name bytes : List ℕ) : Type 0 where
  pub begins : BeginsWithName bytes name
  pub short : length name ≤ most

-- so many bytes, and then such a name
pub record IsNameBehind (before most : ℕ) (name bytes : List ℕ) : Type 0 where
  pub front : List ℕ
  pub tail : List ℕ
  pub front_len : length front ≡ before
  pub are_bytes : AreBytes front
  pub is_counted : IsCountedName most name tail
  pub parts : bytes ≡ front ++ tail

-- the bytes between the letter and the length of the name
abbrev pub fields_len : Role → ℕ
fields_len Acceptor = 12
fields_len Dialer = 16

-- a body of so many bytes
abbrev pub IsBodyOf : Role → ℕ → ShakeMsg → List ℕ → Type 0
IsBodyOf role len message body = IsBody role message body × (length body ≡ len)

-- the text of a status, and one that makes a body of so many bytes
abbrev pub IsStatusText : Status → List ℕ → Type 0
IsStatusText status text = text ≡ status_text status

abbrev pub IsStatusTextOf : ℕ → Status → List ℕ → Type 0
IsStatusTextOf len status text = (text ≡ status_text status) × (suc (length text) ≡ len)

-- the same as tests
abbrev pub is_begun : List ℕ → Status → Bool
is_begun bytes status = bytes_eq bytes (take (length bytes) (status_text status))

abbrev pub is_begun_of : ℕ → List ℕ → Status → Bool
is_begun_of len bytes status = suc (length (status_text status)) == len && is_begun bytes status

abbrev pub for_some : (Status → Bool) → Bool
for_some test =
    test status.Ok || (test status.OkSimultaneous || (test status.Nok || (test status.NotAllowed || (test status.Alive || (test status.True
    || test status.False)))))
