-- The bodies behind each letter.
use Rattle.std.proofs.Common.{◌≡◌, ℕ, zero, suc, ◌-◌, ◌<◌, ◌≤◌, ◌^◌, List, [], ◌∷◌, ◌++◌, length, take, drop, replicate}
use Rattle.std.proofs.Common.{ap, refl, sym, ◌∙◌, append_assoc, arith, length-append, length-drop}
use Rattle.std.proofs.lemmas.List.{append-nil, length-replicate}
use Rattle.std.specs.Int.{to_be_bytes, from_be_bytes, bytes_high_first, w32, w64}
use Rattle.readers.specs.Places.{Begins}
use Rattle.readers.specs.Reading.{AreBytes}
use Rattle.erl_handshake.specs.declared.message.Role.{Role}
use Rattle.erl_handshake.specs.declared.message.Role.TheVariants.{Dialer, Acceptor}
use Rattle.erl_handshake.specs.declared.message.ShakeMsg.{ShakeMsg}
use Rattle.erl_handshake.specs.declared.message.ShakeMsg.TheVariants.{SendName, Status, Challenge, ChallengeReply, ChallengeAck}
use Rattle.erl_handshake.specs.declared.status.Status.TheVariants as status
use Rattle.erl_handshake.specs.Messages.{IsBody}
use Rattle.erl_handshake.specs.Reading.{BeginsWithName}
use Rattle.erl_handshake.proofs.Bytes.{bytes_front, bytes_rest, split_4, split_8}
use Rattle.erl_handshake.proofs.Bodies.{send_name_is, send_name_body, challenge_is, challenge_body, status_is, status_body}
use Rattle.erl_handshake.proofs.Bodies.{reply_is, reply_body, ack_is, ack_body}
use Rattle.message_beginnings.specs.Parts.{IsNameBehind, IsCountedName, IsStatusText, fields_len}
use Rattle.message_beginnings.proofs.Fronts.{AreBytes-append, zeros, none_left}

-- ---- numbers

-- a number in front
record IsNumber4 (bytes : List ℕ) : Type 0 where
  number : ℕ
  fits : number < 2 ^ 32
  parts : bytes ≡ to_be_bytes w32 number ++ drop 4 bytes

number_4 : (bytes : List ℕ) → AreBytes bytes → 4 ≤ length bytes → IsNumber4 bytes
number_4 bytes h le = record {
  number = from_be_bytes w32 (take 4 bytes);
  fits = small;
  parts = split_4 bytes (take 4 bytes) (drop 4 bytes) (from_be_bytes w32 (take 4 bytes)) h le refl refl refl;
}
  where
    small : from_be_bytes w32 (take 4 bytes) < 2 ^ 32
    small =
        let f = bytes_front bytes 4 h in
        let a = f 0 in let b = f 1 in let c = f 2 in let d = f 3 in
        omega arith

record IsNumber8 (bytes : List ℕ) : Type 0 where
  number : ℕ
  fits : number < 2 ^ 64
  parts : bytes ≡ to_be_bytes w64 number ++ drop 8 bytes

number_8 : (bytes : List ℕ) → AreBytes bytes → 8 ≤ length bytes → IsNumber8 bytes
number_8 bytes h le = record {
  number = from_be_bytes w64 (take 8 bytes);
  fits = small;
  parts = split_8 bytes (take 8 bytes) (drop 8 bytes) (from_be_bytes w64 (take 8 bytes)) h le refl refl refl;
}
  where
    small : from_be_bytes w64 (take 8 bytes) < 2 ^ 64
    small =
        let f = bytes_front bytes 8 h in
        let a = f 0 in let b = f 1 in let c = f 2 in let d = f 3 in let e = f 4 in let g = f 5 in let i = f 6 in let j = f 7 in
        omega arith

high_first : (k n : ℕ) → AreBytes (bytes_high_first k n)
high_first zero n i = omega arith
high_first (suc zero) n zero = omega arith
high_first (suc (suc k)) n zero = omega arith
high_first (suc k) n (suc i) = high_first k n i

-- ---- fields in front of a name

-- the flags and a number, and flags and two numbers
record IsFields12 (front : List ℕ) : Type 0 where
  flags : ℕ
  number : ℕ
  flags_fit : flags < 2 ^ 64
  number_fits : number < 2 ^ 32
  parts : front ≡ to_be_bytes w64 flags ++ to_be_bytes w32 number

record IsFields16 (front : List ℕ) : Type 0 where
  flags : ℕ
  number : ℕ
  other : ℕ
  flags_fit : flags < 2 ^ 64
  number_fits : number < 2 ^ 32
  other_fits : other < 2 ^ 32
  parts : front ≡ to_be_bytes w64 flags ++ (to_be_bytes w32 number ++ to_be_bytes w32 other)

fields_12 : (front : List ℕ) → AreBytes front → length front ≡ 12 → IsFields12 front
fields_12 front h len =
    let rest = drop 8 front in
    let flags = number_8 front h (omega arith) in
    let number = number_4 rest (bytes_rest front 8 h) (omega (arith, length-drop 8 front)) in
    let none : drop 4 rest ≡ [] = none_left (drop 4 rest) (omega (arith, length-drop 4 rest, length-drop 8 front)) in
    record {
      flags = flags.number;
      number = number.number;
      flags_fit = flags.fits;
      number_fits = number.fits;
      parts = flags.parts ∙ ap (λ (w : List ℕ). to_be_bytes w64 flags.number ++ w)
          (number.parts ∙ ap (λ (w : List ℕ). to_be_bytes w32 number.number ++ w) none ∙ append-nil (to_be_bytes w32 number.number));
    }

fields_16 : (front : List ℕ) → AreBytes front → length front ≡ 16 → IsFields16 front
fields_16 front h len =
    let rest = drop 8 front in
    let last = drop 4 rest in
    let flags = number_8 front h (omega arith) in
    let number = number_4 rest (bytes_rest front 8 h) (omega (arith, length-drop 8 front)) in
    let other = number_4 last (bytes_rest rest 4 (bytes_rest front 8 h)) (omega (arith, length-drop 4 rest, length-drop 8 front)) in
    let none : drop 4 last ≡ [] = none_left (drop 4 last) (omega (arith, length-drop 4 last, length-drop 4 rest, length-drop 8 front)) in
    record {
      flags = flags.number;
      number = number.number;
      other = other.number;
      flags_fit = flags.fits;
      number_fits = number.fits;
      other_fits = other.fits;
      parts = flags.parts ∙ ap (λ (w : List ℕ). to_be_bytes w64 flags.number ++ w)
          (number.parts ∙ ap (λ (w : List ℕ). to_be_bytes w32 number.number ++ w)
          (other.parts ∙ ap (λ (w : List ℕ). to_be_bytes w32 other.number ++ w) none ∙ append-nil (to_be_bytes w32 other.number)));
    }

send_name_text : (name bytes : List ℕ) → IsNameBehind 12 64 name bytes → (m : ShakeMsg) × IsBody Acceptor m (78 ∷ bytes)
send_name_text name bytes t =
    let f = fields_12 t.front t.are_bytes t.front_len in (
      SendName f.flags f.number name,
      send_name_body f.flags f.number name t.tail bytes f.flags_fit f.number_fits t.is_counted.begins
          (t.parts ∙ ap (λ (w : List ℕ). w ++ t.tail) f.parts ∙ append_assoc (to_be_bytes w64 f.flags) (to_be_bytes w32 f.number) t.tail),
    )

challenge_text : (name bytes : List ℕ) → IsNameBehind 16 64 name bytes → (m : ShakeMsg) × IsBody Dialer m (78 ∷ bytes)
challenge_text name bytes t =
    let f = fields_16 t.front t.are_bytes t.front_len in (
      Challenge f.flags f.number f.other name,
      challenge_body f.flags f.number f.other name t.tail bytes f.flags_fit f.number_fits f.other_fits t.is_counted.begins
          (t.parts
          ∙ ap (λ (w : List ℕ). w ++ t.tail) f.parts
          ∙ append_assoc (to_be_bytes w64 f.flags) (to_be_bytes w32 f.number ++ to_be_bytes w32 f.other) t.tail
          ∙ ap (λ (w : List ℕ). to_be_bytes w64 f.flags ++ w) (append_assoc (to_be_bytes w32 f.number) (to_be_bytes w32 f.other) t.tail)),
    )

counted_name : (tail name : List ℕ) → BeginsWithName tail name → IsCountedName 64 name tail
counted_name tail name n = record { begins = n; short = n.is_name.short }

text_send_name : (m : ShakeMsg) (bytes : List ℕ) → IsBody Acceptor m (78 ∷ bytes) → (name : List ℕ) × IsNameBehind 12 64 name bytes
text_send_name m bytes b =
    let s = send_name_is m bytes b in (
      s.name,
      record {
        front = to_be_bytes w64 s.flags ++ to_be_bytes w32 s.creation;
        tail = s.tail;
        front_len = refl;
        are_bytes = AreBytes-append (to_be_bytes w64 s.flags) (to_be_bytes w32 s.creation) (high_first 8 s.flags) (high_first 4 s.creation);
        is_counted = counted_name s.tail s.name s.has_name;
        parts = s.parts ∙ sym (append_assoc (to_be_bytes w64 s.flags) (to_be_bytes w32 s.creation) s.tail);
      },
    )

text_challenge : (m : ShakeMsg) (bytes : List ℕ) → IsBody Dialer m (78 ∷ bytes) → (name : List ℕ) × IsNameBehind 16 64 name bytes
text_challenge m bytes b =
    let s = challenge_is m bytes b in
    let numbers = to_be_bytes w32 s.challenge ++ to_be_bytes w32 s.creation in (
      s.name,
      record {
        front = to_be_bytes w64 s.flags ++ numbers;
        tail = s.tail;
        front_len = refl;
        are_bytes = AreBytes-append (to_be_bytes w64 s.flags) numbers (high_first 8 s.flags)
            (AreBytes-append (to_be_bytes w32 s.challenge) (to_be_bytes w32 s.creation) (high_first 4 s.challenge) (high_first 4 s.creation));
        is_counted = counted_name s.tail s.name s.has_name;
        parts = s.parts
            ∙ ap (λ (w : List ℕ). to_be_bytes w64 s.flags ++ w) (sym (append_assoc (to_be_bytes w32 s.challenge) (to_be_bytes w32 s.creation) s.tail))
            ∙ sym (append_assoc (to_be_bytes w64 s.flags) numbers s.tail);
      },
    )

-- for either role
pub named_text : (role : Role) (name bytes : List ℕ) → IsNameBehind (fields_len role) 64 name bytes
    → (m : ShakeMsg) × IsBody role m (78 ∷ bytes)
named_text Acceptor name bytes t = send_name_text name bytes t
named_text Dialer name bytes t = challenge_text name bytes t

pub text_named : (role : Role) (m : ShakeMsg) (bytes : List ℕ) → IsBody role m (78 ∷ bytes)
    → (name : List ℕ) × IsNameBehind (fields_len role) 64 name bytes
text_named Acceptor m bytes b = text_send_name m bytes b
text_named Dialer m bytes b = text_challenge m bytes b

pub named_begins : (role : Role) (fields : List ℕ) → Begins (IsNameBehind (fields_len role) 64) fields → Begins (IsBody role) (78 ∷ fields)
named_begins role fields b =
    let t = named_text role b.value (fields ++ b.more) b.is_text in record { value = t.0; more = b.more; is_text = t.1 }

pub begun_named : (role : Role) (fields : List ℕ) → Begins (IsBody role) (78 ∷ fields) → Begins (IsNameBehind (fields_len role) 64) fields
begun_named role fields b =
    let t = text_named role b.value (fields ++ b.more) b.is_text in record { value = t.0; more = b.more; is_text = t.1 }

-- ---- the other letters

pub nothing_begins : (role : Role) → Begins (IsBody role) []
nothing_begins role =
    record { value = Status status.Ok; more = 115 ∷ 111 ∷ 107 ∷ []; is_text = status_body role status.Ok (111 ∷ 107 ∷ []) refl }

pub status_begins : (role : Role) (fields : List ℕ) → Begins IsStatusText fields → Begins (IsBody role) (115 ∷ fields)
status_begins role fields b =
    record { value = Status b.value; more = b.more; is_text = status_body role b.value (fields ++ b.more) b.is_text }

pub begun_status : (role : Role) (fields : List ℕ) → Begins (IsBody role) (115 ∷ fields) → Begins IsStatusText fields
begun_status role fields b =
    let s = status_is role b.value (fields ++ b.more) b.is_text in
    record { value = s.status; more = b.more; is_text = s.parts }

-- zeros up to a length
pub to_len : (n : ℕ) (bytes : List ℕ) → length bytes ≤ n → length (bytes ++ replicate (n - length bytes) 0) ≡ n
to_len n bytes le = length-append bytes (replicate (n - length bytes) 0) ∙ omega (arith, length-replicate {A = ℕ} (n - length bytes) 0)

pub ack_begins : (role : Role) (fields : List ℕ) → length fields ≤ 16 → Begins (IsBody role) (97 ∷ fields)
ack_begins role fields le =
    let all = fields ++ replicate (16 - length fields) 0 in
    record { value = ChallengeAck all; more = replicate (16 - length fields) 0; is_text = ack_body role all (to_len 16 fields le) }

pub begun_ack : (role : Role) (fields : List ℕ) → Begins (IsBody role) (97 ∷ fields) → length fields ≤ 16
begun_ack role fields b =
    let s = ack_is role b.value (fields ++ b.more) b.is_text in
    omega (arith, s.len, length-append fields b.more)

pub reply_text : (role : Role) (fields : List ℕ) → AreBytes fields → length fields ≡ 20 → (m : ShakeMsg) × IsBody role m (114 ∷ fields)
reply_text role fields h len =
    let number = number_4 fields h (omega arith) in (
      ChallengeReply number.number (drop 4 fields),
      reply_body role number.number (drop 4 fields) fields number.fits (length-drop 4 fields ∙ omega arith) number.parts,
    )

pub reply_begins : (role : Role) (fields : List ℕ) → AreBytes fields → length fields ≤ 20 → Begins (IsBody role) (114 ∷ fields)
reply_begins role fields h le =
    let fill = replicate (20 - length fields) 0 in
    let t = reply_text role (fields ++ fill) (AreBytes-append fields fill h (zeros (20 - length fields))) (to_len 20 fields le) in
    record { value = t.0; more = fill; is_text = t.1 }

pub text_reply : (role : Role) (m : ShakeMsg) (bytes : List ℕ) → IsBody role m (114 ∷ bytes) → length bytes ≡ 20
text_reply role m bytes b =
    let s = reply_is role m bytes b in
    omega (arith, ap length s.parts, s.len, length-append (to_be_bytes w32 s.challenge) s.digest)

pub begun_reply : (role : Role) (fields : List ℕ) → Begins (IsBody role) (114 ∷ fields) → length fields ≤ 20
begun_reply role fields b = omega (arith, text_reply role b.value (fields ++ b.more) b.is_text, length-append fields b.more)
