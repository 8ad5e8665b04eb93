-- Handshake messages as numbers and places.
use Rattle.std.proofs.Common.{◌≡◌, ℕ, ◌+◌, ◌/◌, ◌%◌, ◌≤◌, List, ◌∷◌, ◌++◌, length, take, drop, Option, None, Some, Result, refl, ap, ◌∙◌, sym, subst, arith}
use Rattle.std.specs.Int.{to_be_bytes, w32, w64}
use Rattle.erl_handshake.specs.declared.status.Status.{Status as TheStatus}
use Rattle.erl_handshake.specs.declared.status.Status.TheVariants as status
use Rattle.erl_handshake.specs.declared.message.ShakeMsg.TheVariants.{Status}
use Rattle.std.proofs.Math.Seq.{take-append_seam}
use Rattle.erl_term.specs.declared.refusal.Refusal.{Refusal}
use Rattle.erl_handshake.specs.declared.message.Role.{Role}
use Rattle.erl_handshake.specs.declared.message.ShakeMsg.{ShakeMsg}
use Rattle.erl_handshake.specs.Answer.{HasBody, IsShakeDue}
use Rattle.erl_handshake.specs.Messages.{counted}
use Rattle.erl_handshake.proofs.Bytes.{length-counted}
use Rattle.erl_handshake.proofs.Dues.{due_once}
use Rattle.c_library.specs.declared.messages.ErldistMessage.{ErldistMessage}
use Rattle.c_library.specs.Messages.{status_by, status_number, status_message, IsAnswer, IsTold, IsToldOfBody, ReadsMessage, ReadsNameless}

status_back : (s : TheStatus) → status_message (status_by (status_number s)) ≡ Some (Status s)
status_back status.Ok = refl
status_back status.OkSimultaneous = refl
status_back status.Nok = refl
status_back status.NotAllowed = refl
status_back status.Alive = refl
status_back status.True = refl
status_back status.False = refl

-- a status by its number
pub status_told : (s : TheStatus) (n : ℕ) → n ≡ status_number s → status_message (status_by n) ≡ Some (Status s)
status_told s n e = ap (λ k. status_message (status_by k)) e ∙ status_back s

-- the name behind the fields of a send_name, and of a challenge
pub send_name_text : (n flags creation : ℕ) (bytes rest : List ℕ) → bytes ≡ to_be_bytes w64 flags ++ (to_be_bytes w32 creation ++ rest)
    → take n (drop 14 bytes) ≡ take n (drop 2 rest)
send_name_text n flags creation bytes rest e = ap (λ w. take n (drop 14 w)) e

pub challenge_text : (n flags challenge creation : ℕ) (bytes rest : List ℕ)
    → bytes ≡ to_be_bytes w64 flags ++ (to_be_bytes w32 challenge ++ (to_be_bytes w32 creation ++ rest))
    → take n (drop 18 bytes) ≡ take n (drop 2 rest)
challenge_text n flags challenge creation bytes rest e = ap (λ w. take n (drop 18 w)) e

pub send_name_room : (n flags creation : ℕ) (bytes rest : List ℕ) → bytes ≡ to_be_bytes w64 flags ++ (to_be_bytes w32 creation ++ rest)
    → n + 2 ≤ length rest → 17 + n ≤ length (78 ∷ bytes) + 2
send_name_room n flags creation bytes rest e le = let k = ap length e in omega arith

pub challenge_room : (n flags challenge creation : ℕ) (bytes rest : List ℕ)
    → bytes ≡ to_be_bytes w64 flags ++ (to_be_bytes w32 challenge ++ (to_be_bytes w32 creation ++ rest)) → n + 2 ≤ length rest
    → 21 + n ≤ length (78 ∷ bytes) + 2
challenge_room n flags challenge creation bytes rest e le = let k = ap length e in omega arith

-- the whole message at the front
pub taken : (bytes body : List ℕ) → HasBody bytes body → take (length body + 2) bytes ≡ counted body
taken bytes body h =
    let len : length (counted body) ≡ length body + 2 = length-counted body ∙ omega arith in
    ap (λ n. take n bytes) (sym len) ∙ ap (take (length (counted body))) h.parts ∙ take-append_seam (counted body) h.rest

pub told_whole : (bytes body : List ℕ) (message : ShakeMsg) (m : ErldistMessage) → HasBody bytes body → IsToldOfBody body message m
    → IsTold (take (length body + 2) bytes) message (record m { length = length body + 2 })
told_whole bytes body message m h t =
    subst (λ w. IsTold w message (record m { length = length body + 2 })) (sym (taken bytes body h)) (record {
      size = omega arith;
      within = let w = t.within in omega arith;
      says = t.says (length body / 256 % 256) (length body % 256);
    })

-- every answer that is due is told so
pub told_only : (role : Role) (bytes : List ℕ) (known due : Result (Option (ShakeMsg × ℕ)) Refusal) (told : ℕ × ErldistMessage)
    → IsShakeDue role bytes known → IsAnswer bytes known told → IsShakeDue role bytes due → IsAnswer bytes due told
told_only role bytes known due told k a d = subst (λ x. IsAnswer bytes x told) (due_once role bytes known due k d) a

-- a message without a name is read so by either role
pub nameless_role : (role : Role) (body : List ℕ) (answer : Option ErldistMessage) → ReadsNameless body answer → ReadsMessage role body answer
nameless_role role body None h = λ message. h role message
nameless_role role body (Some m) h = (h.0, h.1 role, h.2)
