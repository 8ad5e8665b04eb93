-- The bodies of messages: what a body with a letter in front is, and that a body is of one message.
use Rattle.std.proofs.Common.{Bool, true, ◌||◌, ◌==◌, nat_le, get_or, rules, if◌then◌else◌, codes, ◌≡◌, ℕ, ◌<◌, ◌≤◌}
use Rattle.std.proofs.Common.{◌^◌, List, [], ◌∷◌, ◌++◌, length, drop, ap, sym, refl, subst, ◌∙◌, append_assoc, arith, inl, inr}
use Rattle.std.proofs.lemmas.List.{append-nil}
use Rattle.std.specs.Str.{bytes_eq, IsUtf8, IsAscii}
use Rattle.std.proofs.lemmas.Str.{IsUtf8-from_ascii, IsAscii-append}
use Rattle.std.specs.Int.{to_be_bytes, w32, w64, is_in_range}
use Rattle.std.specs.Char.{is_ascii_alphanumeric}
use Rattle.std.proofs.lemmas.Bool.{and_parts, eqb-true, leb-true, or_cases}
use Rattle.std.proofs.lemmas.Str.Ascii.{IsAscii-from_all}
use Rattle.erl_names.specs.Name.{IsNodeName, IsWord, is_name_byte, is_host_byte}
use Rattle.erl_handshake.specs.declared.status.Status.{Status as TheStatus}
use Rattle.erl_handshake.specs.declared.status.Status.TheVariants as status
use Rattle.erl_handshake.specs.declared.message.Role.{Role}
use Rattle.erl_handshake.specs.declared.message.Role.TheVariants.{Dialer, Acceptor}
use Rattle.erl_handshake.specs.declared.message.ShakeMsg.{ShakeMsg}
use Rattle.erl_handshake.specs.declared.message.ShakeMsg.TheVariants.{SendName, Status, Challenge, ChallengeReply, ChallengeAck}
use Rattle.erl_handshake.specs.Messages.{status_text, counted, IsBody}
use Rattle.erl_handshake.specs.Answer.{HasBody}
use Rattle.erl_handshake.specs.Reading.{BeginsWithName}
use Rattle.erl_handshake.proofs.Bytes.{one_number_4, one_number_8, one_counted}
use Rattle.erl_term.proofs.Behind.{head_same}

-- ---- what stands behind a letter

-- of a send_name, the flags, the creation and the bytes of the name
pub record IsSendName (message : ShakeMsg) (bytes : List ℕ) : Type 0 where
  pub flags : ℕ
  pub creation : ℕ
  pub name : List ℕ
  pub tail : List ℕ
  pub flags_fit : flags < 2 ^ 64
  pub creation_fits : creation < 2 ^ 32
  pub has_name : BeginsWithName tail name
  pub parts : bytes ≡ to_be_bytes w64 flags ++ (to_be_bytes w32 creation ++ tail)
  pub message_is : message ≡ SendName flags creation name

pub record IsChallenge (message : ShakeMsg) (bytes : List ℕ) : Type 0 where
  pub flags : ℕ
  pub challenge : ℕ
  pub creation : ℕ
  pub name : List ℕ
  pub tail : List ℕ
  pub flags_fit : flags < 2 ^ 64
  pub challenge_fits : challenge < 2 ^ 32
  pub creation_fits : creation < 2 ^ 32
  pub has_name : BeginsWithName tail name
  pub parts : bytes ≡ to_be_bytes w64 flags ++ (to_be_bytes w32 challenge ++ (to_be_bytes w32 creation ++ tail))
  pub message_is : message ≡ Challenge flags challenge creation name

pub record IsStatus (message : ShakeMsg) (bytes : List ℕ) : Type 0 where
  pub status : TheStatus
  pub parts : bytes ≡ status_text status
  pub message_is : message ≡ Status status

pub record IsReply (message : ShakeMsg) (bytes : List ℕ) : Type 0 where
  pub challenge : ℕ
  pub digest : List ℕ
  pub challenge_fits : challenge < 2 ^ 32
  pub len : length digest ≡ 16
  pub parts : bytes ≡ to_be_bytes w32 challenge ++ digest
  pub message_is : message ≡ ChallengeReply challenge digest

pub record IsAck (message : ShakeMsg) (bytes : List ℕ) : Type 0 where
  pub len : length bytes ≡ 16
  pub message_is : message ≡ ChallengeAck bytes

behind : {x y : ℕ} (a b : List ℕ) → x ∷ a ≡ y ∷ b → a ≡ b
behind a b e = cc

three : (a b c rest : List ℕ) → (a ++ (b ++ c)) ++ rest ≡ a ++ (b ++ (c ++ rest))
three a b c rest = append_assoc a (b ++ c) rest ∙ ap (λ (w : List ℕ). a ++ w) (append_assoc b c rest)

four : (a b c d rest : List ℕ) → (a ++ (b ++ (c ++ d))) ++ rest ≡ a ++ (b ++ (c ++ (d ++ rest)))
four a b c d rest = three a b (c ++ d) rest ∙ ap (λ (w : List ℕ). a ++ (b ++ w)) (append_assoc c d rest)

pub send_name_is : (message : ShakeMsg) (bytes : List ℕ) → IsBody Acceptor message (78 ∷ bytes) → IsSendName message bytes
send_name_is (SendName flags creation name) bytes b = record {
  flags = flags;
  creation = creation;
  name = name;
  tail = counted name ++ b.rest;
  flags_fit = b.has_fields.0;
  creation_fits = b.has_fields.1;
  has_name = record { rest = b.rest; is_name = b.has_fields.2; parts = refl };
  parts = behind bytes _ b.parts ∙ three (to_be_bytes w64 flags) (to_be_bytes w32 creation) (counted name) b.rest;
  message_is = refl;
}
send_name_is (Status s) bytes b = absurd (let e : 78 ≡ 115 = head_same 78 115 bytes _ b.parts in omega arith)
send_name_is (Challenge flags challenge creation name) bytes b = absurd (let e = b.is_for in cc)
send_name_is (ChallengeReply challenge digest) bytes b = absurd (let e : 78 ≡ 114 = head_same 78 114 bytes _ b.parts in omega arith)
send_name_is (ChallengeAck digest) bytes b = absurd (let e : 78 ≡ 97 = head_same 78 97 bytes _ b.parts in omega arith)

pub challenge_is : (message : ShakeMsg) (bytes : List ℕ) → IsBody Dialer message (78 ∷ bytes) → IsChallenge message bytes
challenge_is (SendName flags creation name) bytes b = absurd (let e = b.is_for in cc)
challenge_is (Status s) bytes b = absurd (let e : 78 ≡ 115 = head_same 78 115 bytes _ b.parts in omega arith)
challenge_is (Challenge flags challenge creation name) bytes b = record {
  flags = flags;
  challenge = challenge;
  creation = creation;
  name = name;
  tail = counted name ++ b.rest;
  flags_fit = b.has_fields.0;
  challenge_fits = b.has_fields.1;
  creation_fits = b.has_fields.2;
  has_name = record { rest = b.rest; is_name = b.has_fields.3; parts = refl };
  parts =
      behind bytes _ b.parts ∙ four (to_be_bytes w64 flags) (to_be_bytes w32 challenge) (to_be_bytes w32 creation) (counted name) b.rest;
  message_is = refl;
}
challenge_is (ChallengeReply challenge digest) bytes b = absurd (let e : 78 ≡ 114 = head_same 78 114 bytes _ b.parts in omega arith)
challenge_is (ChallengeAck digest) bytes b = absurd (let e : 78 ≡ 97 = head_same 78 97 bytes _ b.parts in omega arith)

with_none : (a rest : List ℕ) → rest ≡ [] → a ++ rest ≡ a
with_none a rest e = ap (λ (w : List ℕ). a ++ w) e ∙ append-nil a

pub status_is : (role : Role) (message : ShakeMsg) (bytes : List ℕ) → IsBody role message (115 ∷ bytes) → IsStatus message bytes
status_is role (SendName flags creation name) bytes b = absurd (let e : 115 ≡ 78 = head_same 115 78 bytes _ b.parts in omega arith)
status_is role (Status s) bytes b = record {
  status = s;
  parts = behind bytes _ b.parts ∙ with_none (status_text s) b.rest b.may_follow;
  message_is = refl;
}
status_is role (Challenge flags challenge creation name) bytes b =
    absurd (let e : 115 ≡ 78 = head_same 115 78 bytes _ b.parts in omega arith)
status_is role (ChallengeReply challenge digest) bytes b = absurd (let e : 115 ≡ 114 = head_same 115 114 bytes _ b.parts in omega arith)
status_is role (ChallengeAck digest) bytes b = absurd (let e : 115 ≡ 97 = head_same 115 97 bytes _ b.parts in omega arith)

pub reply_is : (role : Role) (message : ShakeMsg) (bytes : List ℕ) → IsBody role message (114 ∷ bytes) → IsReply message bytes
reply_is role (SendName flags creation name) bytes b = absurd (let e : 114 ≡ 78 = head_same 114 78 bytes _ b.parts in omega arith)
reply_is role (Status s) bytes b = absurd (let e : 114 ≡ 115 = head_same 114 115 bytes _ b.parts in omega arith)
reply_is role (Challenge flags challenge creation name) bytes b =
    absurd (let e : 114 ≡ 78 = head_same 114 78 bytes _ b.parts in omega arith)
reply_is role (ChallengeReply challenge digest) bytes b = record {
  challenge = challenge;
  digest = digest;
  challenge_fits = b.has_fields.0;
  len = b.has_fields.1;
  parts = behind bytes _ b.parts ∙ with_none (to_be_bytes w32 challenge ++ digest) b.rest b.may_follow;
  message_is = refl;
}
reply_is role (ChallengeAck digest) bytes b = absurd (let e : 114 ≡ 97 = head_same 114 97 bytes _ b.parts in omega arith)

pub ack_is : (role : Role) (message : ShakeMsg) (bytes : List ℕ) → IsBody role message (97 ∷ bytes) → IsAck message bytes
ack_is role (SendName flags creation name) bytes b = absurd (let e : 97 ≡ 78 = head_same 97 78 bytes _ b.parts in omega arith)
ack_is role (Status s) bytes b = absurd (let e : 97 ≡ 115 = head_same 97 115 bytes _ b.parts in omega arith)
ack_is role (Challenge flags challenge creation name) bytes b = absurd (let e : 97 ≡ 78 = head_same 97 78 bytes _ b.parts in omega arith)
ack_is role (ChallengeReply challenge digest) bytes b = absurd (let e : 97 ≡ 114 = head_same 97 114 bytes _ b.parts in omega arith)
ack_is role (ChallengeAck digest) bytes b =
    let same : bytes ≡ digest = behind bytes _ b.parts ∙ with_none digest b.rest b.may_follow in
    record { len = ap length same ∙ b.has_fields; message_is = ap (λ (w : List ℕ). ChallengeAck w) (sym same) }

-- ---- and back

pub send_name_body : (flags creation : ℕ) (name tail bytes : List ℕ) → flags < 2 ^ 64 → creation < 2 ^ 32
    → BeginsWithName tail name → bytes ≡ to_be_bytes w64 flags ++ (to_be_bytes w32 creation ++ tail)
    → IsBody Acceptor (SendName flags creation name) (78 ∷ bytes)
send_name_body flags creation name tail bytes p q n e = record {
  rest = n.rest;
  has_fields = (p, q, n.is_name);
  is_for = refl;
  may_follow = tt;
  parts = ap (λ (w : List ℕ). 78 ∷ w) (e
      ∙ ap (λ (w : List ℕ). to_be_bytes w64 flags ++ (to_be_bytes w32 creation ++ w)) n.parts
      ∙ sym (three (to_be_bytes w64 flags) (to_be_bytes w32 creation) (counted name) n.rest));
}

pub challenge_body : (flags challenge creation : ℕ) (name tail bytes : List ℕ) → flags < 2 ^ 64 → challenge < 2 ^ 32
    → creation < 2 ^ 32 → BeginsWithName tail name
    → bytes ≡ to_be_bytes w64 flags ++ (to_be_bytes w32 challenge ++ (to_be_bytes w32 creation ++ tail))
    → IsBody Dialer (Challenge flags challenge creation name) (78 ∷ bytes)
challenge_body flags challenge creation name tail bytes p q r n e = record {
  rest = n.rest;
  has_fields = (p, q, r, n.is_name);
  is_for = refl;
  may_follow = tt;
  parts = ap (λ (w : List ℕ). 78 ∷ w) (e
      ∙ ap (λ (w : List ℕ). to_be_bytes w64 flags ++ (to_be_bytes w32 challenge ++ (to_be_bytes w32 creation ++ w))) n.parts
      ∙ sym (four (to_be_bytes w64 flags) (to_be_bytes w32 challenge) (to_be_bytes w32 creation) (counted name) n.rest));
}

pub status_body : (role : Role) (s : TheStatus) (bytes : List ℕ) → bytes ≡ status_text s → IsBody role (Status s) (115 ∷ bytes)
status_body role s bytes e = record {
  rest = [];
  has_fields = tt;
  is_for = tt;
  may_follow = refl;
  parts = ap (λ (w : List ℕ). 115 ∷ w) (e ∙ sym (append-nil (status_text s)));
}

pub reply_body : (role : Role) (challenge : ℕ) (digest bytes : List ℕ) → challenge < 2 ^ 32 → length digest ≡ 16
    → bytes ≡ to_be_bytes w32 challenge ++ digest → IsBody role (ChallengeReply challenge digest) (114 ∷ bytes)
reply_body role challenge digest bytes p l e = record {
  rest = [];
  has_fields = (p, l);
  is_for = tt;
  may_follow = refl;
  parts = ap (λ (w : List ℕ). 114 ∷ w) (e ∙ sym (append-nil (to_be_bytes w32 challenge ++ digest)));
}

pub ack_body : (role : Role) (digest : List ℕ) → length digest ≡ 16 → IsBody role (ChallengeAck digest) (97 ∷ digest)
ack_body role digest l = record {
  rest = [];
  has_fields = l;
  is_for = tt;
  may_follow = refl;
  parts = ap (λ (w : List ℕ). 97 ∷ w) (sym (append-nil digest));
}

-- a send_name has its name, and a name makes a send_name
pub send_name_named : (flags creation : ℕ) (tail bytes : List ℕ) → flags < 2 ^ 64 → creation < 2 ^ 32
    → bytes ≡ to_be_bytes w64 flags ++ (to_be_bytes w32 creation ++ tail)
    → (m : ShakeMsg) → IsBody Acceptor m (78 ∷ bytes) → (name : List ℕ) × BeginsWithName tail name
send_name_named flags creation tail bytes p q e m b =
    let s = send_name_is m bytes b in
    let f = one_number_8 s.flags flags _ _ s.flags_fit p (sym s.parts ∙ e) in
    let c = one_number_4 s.creation creation _ _ s.creation_fits q f.1 in
    (s.name, subst (λ (w : List ℕ). BeginsWithName w s.name) c.1 s.has_name)

pub challenge_named : (flags challenge creation : ℕ) (tail bytes : List ℕ) → flags < 2 ^ 64 → challenge < 2 ^ 32
    → creation < 2 ^ 32 → bytes ≡ to_be_bytes w64 flags ++ (to_be_bytes w32 challenge ++ (to_be_bytes w32 creation ++ tail))
    → (m : ShakeMsg) → IsBody Dialer m (78 ∷ bytes) → (name : List ℕ) × BeginsWithName tail name
challenge_named flags challenge creation tail bytes p q r e m b =
    let s = challenge_is m bytes b in
    let f = one_number_8 s.flags flags _ _ s.flags_fit p (sym s.parts ∙ e) in
    let h = one_number_4 s.challenge challenge _ _ s.challenge_fits q f.1 in
    let c = one_number_4 s.creation creation _ _ s.creation_fits r h.1 in
    (s.name, subst (λ (w : List ℕ). BeginsWithName w s.name) c.1 s.has_name)

-- ---- a body is of one message

pub short_name : (name : List ℕ) → IsNodeName name → length name < 2 ^ 16
short_name name n = let s = n.short in omega arith

one_name : (tail a b : List ℕ) → BeginsWithName tail a → BeginsWithName tail b → a ≡ b
one_name tail a b p q = (one_counted a b p.rest q.rest (short_name a p.is_name) (short_name b q.is_name) (sym p.parts ∙ q.parts)).0

-- ---- names

range_low : (lo hi c : ℕ) → is_in_range lo hi c ≡ true → c ≤ hi
range_low lo hi c e = leb-true c hi (and_parts (nat_le lo c) (nat_le c hi) e).1

alphanumeric_low : (c : ℕ) → is_ascii_alphanumeric c ≡ true → c < 128
alphanumeric_low c e =
    elim (or_cases (is_in_range 48 57 c || is_in_range 65 90 c) (is_in_range 97 122 c) e) [
      | inl p ↦
          elim (or_cases (is_in_range 48 57 c) (is_in_range 65 90 c) p) [
            | inl q ↦ omega (arith, range_low 48 57 c q)
            | inr q ↦ omega (arith, range_low 65 90 c q)
          ]
      | inr q ↦ omega (arith, range_low 97 122 c q)
    ]

name_byte_low : (c : ℕ) → is_name_byte c ≡ true → c < 128
name_byte_low c e =
    elim (or_cases (is_ascii_alphanumeric c) (c == 95 || c == 45) e) [
      | inl p ↦ alphanumeric_low c p
      | inr p ↦ elim (or_cases (c == 95) (c == 45) p) [ inl q ↦ omega (arith, eqb-true c 95 q) | inr q ↦ omega (arith, eqb-true c 45 q) ]
    ]

host_byte_low : (c : ℕ) → is_host_byte c ≡ true → c < 128
host_byte_low c e =
    elim (or_cases (is_name_byte c) (c == 46) e) [ inl p ↦ name_byte_low c p | inr q ↦ omega (arith, eqb-true c 46 q) ]

word_ascii : (passes : ℕ → Bool) → ((c : ℕ) → passes c ≡ true → c < 128) → (word : List ℕ) → IsWord passes word → IsAscii word
word_ascii passes low word w = IsAscii-from_all word (λ i d lt. low (get_or word i d) (w.1 i d lt))

name_ascii : (name : List ℕ) → IsNodeName name → IsAscii name
name_ascii name n =
    let host : IsAscii (64 ∷ n.host) =
    IsAscii-append (64 ∷ []) n.host (IsAscii-from_all (64 ∷ []) (search rules))
    (word_ascii is_host_byte host_byte_low n.host n.host_word) in
    subst IsAscii (sym n.parts) (IsAscii-append n.name (64 ∷ n.host) (word_ascii is_name_byte name_byte_low n.name n.name_word) host)

-- the name in front of bytes is the text that is counted there
name_is_text : (bytes text name : List ℕ) → HasBody bytes text → BeginsWithName bytes name → name ≡ text
name_is_text bytes text name h n = (one_counted name text n.rest h.rest (short_name name n.is_name) h.short (sym n.parts ∙ h.parts)).0

pub no_name : (bytes text name : List ℕ) → HasBody bytes text → ¬ IsNodeName text → BeginsWithName bytes name → ⊥
no_name bytes text name h none n = none (subst IsNodeName (name_is_text bytes text name h n) n.is_name)

pub no_text : (bytes text name : List ℕ) → HasBody bytes text → ¬ IsUtf8 text → BeginsWithName bytes name → ⊥
no_text bytes text name h none n =
    none (subst IsUtf8 (name_is_text bytes text name h n) (IsUtf8-from_ascii name (name_ascii name n.is_name)))

pub with_name : (bytes text name : List ℕ) → HasBody bytes text → IsNodeName text → name ≡ text → BeginsWithName bytes name
with_name bytes text name h n e = record {
  rest = h.rest;
  is_name = subst IsNodeName (sym e) n;
  parts = h.parts ∙ ap (λ (w : List ℕ). counted w ++ h.rest) (sym e);
}

same_send_name : (m k : ShakeMsg) (bytes : List ℕ) → IsSendName m bytes → IsSendName k bytes → m ≡ k
same_send_name m k bytes p q =
    let f = one_number_8 p.flags q.flags _ _ p.flags_fit q.flags_fit (sym p.parts ∙ q.parts) in
    let c = one_number_4 p.creation q.creation _ _ p.creation_fits q.creation_fits f.1 in
    let n = one_name p.tail p.name q.name p.has_name (subst (λ (w : List ℕ). BeginsWithName w q.name) (sym c.1) q.has_name) in
    p.message_is
    ∙ ap (λ (x : ℕ). SendName x p.creation p.name) f.0
    ∙ ap (λ (x : ℕ). SendName q.flags x p.name) c.0
    ∙ ap (λ (w : List ℕ). SendName q.flags q.creation w) n
    ∙ sym q.message_is

same_challenge : (m k : ShakeMsg) (bytes : List ℕ) → IsChallenge m bytes → IsChallenge k bytes → m ≡ k
same_challenge m k bytes p q =
    let f = one_number_8 p.flags q.flags _ _ p.flags_fit q.flags_fit (sym p.parts ∙ q.parts) in
    let h = one_number_4 p.challenge q.challenge _ _ p.challenge_fits q.challenge_fits f.1 in
    let c = one_number_4 p.creation q.creation _ _ p.creation_fits q.creation_fits h.1 in
    let n = one_name p.tail p.name q.name p.has_name (subst (λ (w : List ℕ). BeginsWithName w q.name) (sym c.1) q.has_name) in
    p.message_is
    ∙ ap (λ (x : ℕ). Challenge x p.challenge p.creation p.name) f.0
    ∙ ap (λ (x : ℕ). Challenge q.flags x p.creation p.name) h.0
    ∙ ap (λ (x : ℕ). Challenge q.flags q.challenge x p.name) c.0
    ∙ ap (λ (w : List ℕ). Challenge q.flags q.challenge q.creation w) n
    ∙ sym q.message_is

same_reply : (m k : ShakeMsg) (bytes : List ℕ) → IsReply m bytes → IsReply k bytes → m ≡ k
same_reply m k bytes p q =
    let h = one_number_4 p.challenge q.challenge _ _ p.challenge_fits q.challenge_fits (sym p.parts ∙ q.parts) in
    p.message_is ∙ ap (λ (x : ℕ). ChallengeReply x p.digest) h.0 ∙ ap (λ (w : List ℕ). ChallengeReply q.challenge w) h.1 ∙ sym q.message_is

-- the status of a text, if it is the text of one
pub status_in : List ℕ → TheStatus
status_in text =
    if bytes_eq text (codes "ok") then status.Ok
    else (if bytes_eq text (codes "ok_simultaneous") then status.OkSimultaneous
    else (if bytes_eq text (codes "nok") then status.Nok
    else (if bytes_eq text (codes "not_allowed") then status.NotAllowed
    else (if bytes_eq text (codes "alive") then status.Alive
    else (if bytes_eq text (codes "true") then status.True
    else status.False)))))

pub status_back : (s : TheStatus) → status_in (status_text s) ≡ s
unfolding status_in
status_back status.Ok = refl
status_back _ = refl

same_status : (m k : ShakeMsg) (bytes : List ℕ) → IsStatus m bytes → IsStatus k bytes → m ≡ k
same_status m k bytes p q =
    let s : p.status ≡ q.status = sym (status_back p.status) ∙ ap status_in (sym p.parts ∙ q.parts) ∙ status_back q.status in
    p.message_is ∙ ap (λ (s : TheStatus). Status s) s ∙ sym q.message_is

pub status_utf8 : (s : TheStatus) → IsUtf8 (status_text s)
status_utf8 status.Ok = search rules
status_utf8 _ = search rules

-- the same body, for the same role
moved : (role r : Role) (m : ShakeMsg) (body b : List ℕ) → role ≡ r → body ≡ b → IsBody role m body → IsBody r m b
moved role r m body b e f p = subst (λ (x : Role). IsBody x m b) e (subst (IsBody role m) f p)

pub with_letter : (letter : ℕ) (body w : List ℕ) → body ≡ letter ∷ w → body ≡ letter ∷ drop 1 body
with_letter letter body w e = e ∙ ap (λ (v : List ℕ). letter ∷ v) (sym (ap (λ (v : List ℕ). drop 1 v) e))

-- a body is of one message
pub one_message : (role : Role) (m k : ShakeMsg) (body : List ℕ) → IsBody role m body → IsBody role k body → m ≡ k
one_message role (SendName flags creation name) k body p q =
    let e = with_letter 78 body _ p.parts in
    let m = SendName flags creation name in
    same_send_name m k (drop 1 body)
    (send_name_is m (drop 1 body) (moved role Acceptor m body (78 ∷ drop 1 body) p.is_for e p))
    (send_name_is k (drop 1 body) (moved role Acceptor k body (78 ∷ drop 1 body) p.is_for e q))
one_message role (Status s) k body p q =
    let e = with_letter 115 body _ p.parts in
    same_status (Status s) k (drop 1 body)
    (status_is role (Status s) (drop 1 body) (subst (IsBody role (Status s)) e p))
    (status_is role k (drop 1 body) (subst (IsBody role k) e q))
one_message role (Challenge flags challenge creation name) k body p q =
    let e = with_letter 78 body _ p.parts in
    let m = Challenge flags challenge creation name in
    same_challenge m k (drop 1 body)
    (challenge_is m (drop 1 body) (moved role Dialer m body (78 ∷ drop 1 body) p.is_for e p))
    (challenge_is k (drop 1 body) (moved role Dialer k body (78 ∷ drop 1 body) p.is_for e q))
one_message role (ChallengeReply challenge digest) k body p q =
    let e = with_letter 114 body _ p.parts in
    let m = ChallengeReply challenge digest in
    same_reply m k (drop 1 body)
    (reply_is role m (drop 1 body) (subst (IsBody role m) e p))
    (reply_is role k (drop 1 body) (subst (IsBody role k) e q))
one_message role (ChallengeAck digest) k body p q =
    let e = with_letter 97 body _ p.parts in
    let a = ack_is role (ChallengeAck digest) (drop 1 body) (subst (IsBody role (ChallengeAck digest)) e p) in
    let b = ack_is role k (drop 1 body) (subst (IsBody role k) e q) in
    a.message_is ∙ sym b.message_is
