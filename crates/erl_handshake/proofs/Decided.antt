-- Whether a text is a name, and whether a body is of a message.
use Rattle.std.proofs.Common.{◌≡◌, ℕ, ◌+◌, ◌<◌, ◌≤◌, ◌^◌, Bool, true, false, List, [], ◌∷◌, ◌++◌, length, take, drop}
use Rattle.std.proofs.Common.{All, ap, sym, refl, subst, ◌∙◌, arith, length-append, length-drop, ◌⊎◌, inl, inr}
use Rattle.std.specs.List.{list_all}
use Rattle.std.specs.Str.{bytes_eq}
use Rattle.std.specs.Cmp.Lexicographic.{same_text, other_text}
use Rattle.std.specs.Int.{to_be_bytes, from_be_bytes, w32, w64}
use Rattle.std.proofs.lemmas.Bool.{cases_lt, cases_eq}
use Rattle.std.proofs.lemmas.List.Elements.{All-nil, All-cons, All-head, All-tail}
use Rattle.std.proofs.lemmas.List.Sums.{AllPass-from_list_all, list_all-from_AllPass}
use Rattle.readers.specs.Reading.{AreBytes}
use Rattle.readers.proofs.Sequence.{AreBytes-split}
use Rattle.erl_names.specs.Name.{IsNodeName, IsWord, is_name_byte, is_host_byte}
use Rattle.erl_handshake.specs.declared.message.Role.{Role}
use Rattle.erl_handshake.specs.declared.message.Role.TheVariants.{Dialer, Acceptor}
use Rattle.erl_handshake.specs.declared.message.ShakeMsg.{ShakeMsg}
use Rattle.erl_handshake.specs.declared.message.ShakeMsg.TheVariants.{SendName, Status, Challenge, ChallengeReply, ChallengeAck}
use Rattle.erl_handshake.specs.Messages.{status_text, IsBody}
use Rattle.erl_handshake.specs.Answer.{HasBody, IsBegun}
use Rattle.erl_handshake.specs.Reading.{BeginsWithName}
use Rattle.erl_handshake.proofs.Bytes.{split_4, split_8, bytes_front, bytes_rest, begun_or_not, begun_or_whole}
use Rattle.erl_handshake.proofs.Bodies.{status_in, status_back, send_name_is, challenge_is, status_is, reply_is, ack_is}
use Rattle.erl_handshake.proofs.Bodies.{send_name_body, challenge_body, status_body, reply_body, ack_body, send_name_named}
use Rattle.erl_handshake.proofs.Bodies.{challenge_named, no_name, with_name, short_name, with_letter}
use Rattle.erl_term.proofs.Behind.{head_same}

-- P holds, or it doesn't
abbrev Decided : Type 0 → Type 0
Decided P = P ⊎ (P → ⊥)

-- ---- names

NotAt : ℕ → Type 0
NotAt b = b ≡ 64 → ⊥

-- the words round the first `@`
record Split (text : List ℕ) : Type 0 where
  name : List ℕ
  host : List ℕ
  parts : text ≡ name ++ 64 ∷ host
  before : All NotAt name

one_split : (a b c d : List ℕ) → All NotAt a → All NotAt b → a ++ 64 ∷ c ≡ b ++ 64 ∷ d → (a ≡ b) × (c ≡ d)
unfolding NotAt
one_split [] [] c d p q e = (refl, cc)
one_split [] (y ∷ b) c d p q e = absurd (All-head NotAt y b q (let k : 64 ≡ y = cc in sym k))
one_split (x ∷ a) [] c d p q e = absurd (All-head NotAt x a p (let k : x ≡ 64 = cc in k))
one_split (x ∷ a) (y ∷ b) c d p q e =
    let head : x ≡ y = cc in
    let tail : a ++ 64 ∷ c ≡ b ++ 64 ∷ d = cc in
    let t = one_split a b c d (All-tail NotAt x a p) (All-tail NotAt y b q) tail in
    (ap (λ (k : ℕ). k ∷ a) head ∙ ap (λ (w : List ℕ). y ∷ w) t.0, t.1)

split_or_not : (text : List ℕ) → Split text ⊎ ((a b : List ℕ) → text ≡ a ++ 64 ∷ b → ⊥)
unfolding NotAt
split_or_not [] = inr (λ a b e. absurd (let k : 0 ≡ length a + length (64 ∷ b) = ap length e ∙ length-append a (64 ∷ b) in omega arith))
split_or_not (x ∷ text) =
    elim (cases_eq x 64) [
      | inl e ↦ inl
          (record { name = []; host = text; parts = ap (λ (k : ℕ). k ∷ text) e; before = All-nil NotAt })
      | inr ne ↦ later ne
          (split_or_not text)
    ]
  where
    later : NotAt x → Split text ⊎ ((a b : List ℕ) → text ≡ a ++ 64 ∷ b → ⊥) → Split (x ∷ text)
        ⊎ ((a b : List ℕ) → x ∷ text ≡ a ++ 64 ∷ b → ⊥)
    later ne (inl s) =
        inl (record
        { name = x ∷ s.name; host = s.host; parts = ap (λ (w : List ℕ). x ∷ w) s.parts; before = All-cons NotAt x s.name ne s.before })
    later ne (inr never) = inr none
      where
        none : (a b : List ℕ) → x ∷ text ≡ a ++ 64 ∷ b → ⊥
        none [] b e = ne (let k : x ≡ 64 = cc in k)
        none (y ∷ a) b e = never a b (let k : text ≡ a ++ 64 ∷ b = cc in k)

word_or_not : (passes : ℕ → Bool) (word : List ℕ) → Decided (IsWord passes word)
word_or_not passes word =
    elim (cases_lt 0 (length word)) [ inl some ↦ by some (list_all passes word) refl | inr none ↦ inr (λ w. let s = w.0 in omega arith) ]
  where
    by : 0 < length word → (b : Bool) → list_all passes word ≡ b → Decided (IsWord passes word)
    by some true e = inl (some, AllPass-from_list_all passes word e)
    by some false e =
        inr (λ w.
        absurd (let k : list_all passes word ≡ true = list_all-from_AllPass passes word w.1 in let l : false ≡ true = sym e ∙ k in cc))

-- a word of a name has no `@`
name_word_free : (word : List ℕ) → IsWord is_name_byte word → All NotAt word
unfolding NotAt
name_word_free word w =
    λ i d lt e. let k : is_name_byte 64 ≡ true = subst (λ (b : ℕ). is_name_byte b ≡ true) e (w.1 i d lt) in
    let l : false ≡ true = k in absurd cc

pub name_or_not : (text : List ℕ) → Decided (IsNodeName text)
name_or_not text =
    elim (cases_lt 64 (length text)) [ inl long ↦ inr (λ n. let s = n.short in omega arith) | inr short ↦ by short (split_or_not text) ]
  where
    words : length text ≤ 64 → (s : Split text) → Decided (IsWord is_name_byte s.name) → Decided (IsWord is_host_byte s.host)
        → Decided (IsNodeName text)
    words short s (inl n) (inl h) =
        inl (record { name = s.name; host = s.host; parts = s.parts; name_word = n; host_word = h; short = short })
    words short s (inr never) (inl h) =
        inr (λ k. let t = one_split k.name s.name k.host s.host (name_word_free k.name k.name_word) s.before (sym k.parts ∙ s.parts) in
        never (subst (IsWord is_name_byte) t.0 k.name_word))
    words short s (inr never) (inr other) =
        inr (λ k. let t = one_split k.name s.name k.host s.host (name_word_free k.name k.name_word) s.before (sym k.parts ∙ s.parts) in
        never (subst (IsWord is_name_byte) t.0 k.name_word))
    words short s (inl n) (inr never) =
        inr (λ k. let t = one_split k.name s.name k.host s.host (name_word_free k.name k.name_word) s.before (sym k.parts ∙ s.parts) in
        never (subst (IsWord is_host_byte) t.1 k.host_word))

    by : length text ≤ 64 → Split text ⊎ ((a b : List ℕ) → text ≡ a ++ 64 ∷ b → ⊥) → Decided (IsNodeName text)
    by short (inl s) = words short s (word_or_not is_name_byte s.name) (word_or_not is_host_byte s.host)
    by short (inr never) = inr (λ k. never k.name k.host k.parts)

abbrev FrontName : List ℕ → Type 0
FrontName bytes = (name : List ℕ) × BeginsWithName bytes name

front_name : (bytes : List ℕ) → AreBytes bytes → Decided (FrontName bytes)
front_name bytes h = by (begun_or_whole bytes h)
  where
    text_is : (text : List ℕ) → HasBody bytes text → Decided (IsNodeName text) → Decided (FrontName bytes)
    text_is text b (inl n) = inl (text, with_name bytes text text b n refl)
    text_is text b (inr never) = inr (λ x. no_name bytes text x.0 b never x.1)

    by : IsBegun bytes ⊎ ((text : List ℕ) × HasBody bytes text) → Decided (FrontName bytes)
    by (inl begun) =
        inr (λ x. begun_or_not bytes x.0 (record { rest = x.1.rest; short = short_name x.0 x.1.is_name; parts = x.1.parts }) begun)
    by (inr b) = text_is b.0 b.1 (name_or_not b.0)

-- ---- bodies

abbrev pub HasMessage : Role → List ℕ → Type 0
HasMessage role body = (m : ShakeMsg) × IsBody role m body

-- a number of 64 bits, and one of 32
number_8 : (bytes : List ℕ) → ℕ
number_8 bytes = from_be_bytes w64 (take 8 bytes)

number_4 : (bytes : List ℕ) → ℕ
number_4 bytes = from_be_bytes w32 (take 4 bytes)

parts_8 : (bytes : List ℕ) → AreBytes bytes → 8 ≤ length bytes → bytes ≡ to_be_bytes w64 (number_8 bytes) ++ drop 8 bytes
unfolding number_8
parts_8 bytes h le = split_8 bytes (take 8 bytes) (drop 8 bytes) (from_be_bytes w64 (take 8 bytes)) h le refl refl refl

parts_4 : (bytes : List ℕ) → AreBytes bytes → 4 ≤ length bytes → bytes ≡ to_be_bytes w32 (number_4 bytes) ++ drop 4 bytes
unfolding number_4
parts_4 bytes h le = split_4 bytes (take 4 bytes) (drop 4 bytes) (from_be_bytes w32 (take 4 bytes)) h le refl refl refl

number_8_fits : (bytes : List ℕ) → AreBytes bytes → number_8 bytes < 2 ^ 64
unfolding number_8
number_8_fits bytes h =
    let f = bytes_front bytes 8 h in
    let a = f 0 in let b = f 1 in let c = f 2 in let d = f 3 in let e = f 4 in let g = f 5 in let i = f 6 in let j = f 7 in
    omega arith

number_4_fits : (bytes : List ℕ) → AreBytes bytes → number_4 bytes < 2 ^ 32
unfolding number_4
number_4_fits bytes h =
    let f = bytes_front bytes 4 h in
    let a = f 0 in let b = f 1 in let c = f 2 in let d = f 3 in
    omega arith

-- the flags, a number of 32 bits and what is behind them
record Flagged (bytes : List ℕ) : Type 0 where
  flags : ℕ
  number : ℕ
  tail : List ℕ
  flags_fit : flags < 2 ^ 64
  number_fits : number < 2 ^ 32
  are_bytes : AreBytes tail
  len : 12 + length tail ≡ length bytes
  parts : bytes ≡ to_be_bytes w64 flags ++ (to_be_bytes w32 number ++ tail)

flagged : (bytes : List ℕ) → AreBytes bytes → 12 ≤ length bytes → Flagged bytes
flagged bytes h le =
    let rest = drop 8 bytes in
    let h8 = bytes_rest bytes 8 h in
    let le4 : 4 ≤ length rest = omega (arith, length-drop 8 bytes) in
    record {
      flags = number_8 bytes;
      number = number_4 rest;
      tail = drop 4 rest;
      flags_fit = number_8_fits bytes h;
      number_fits = number_4_fits rest h8;
      are_bytes = bytes_rest rest 4 h8;
      len = omega (arith, length-drop 8 bytes, length-drop 4 rest);
      parts = parts_8 bytes h (omega arith) ∙ ap (λ (w : List ℕ). to_be_bytes w64 (number_8 bytes) ++ w) (parts_4 rest h8 le4);
    }

send_name_or_not : (bytes : List ℕ) → AreBytes bytes → Decided (HasMessage Acceptor (78 ∷ bytes))
send_name_or_not bytes h = elim (cases_lt (length bytes) 12) [ inl few ↦ inr (short few) | inr le ↦ by (flagged bytes h le) ]
  where
    short : length bytes < 12 → HasMessage Acceptor (78 ∷ bytes) → ⊥
    short few x = let s = send_name_is x.0 bytes x.1 in let l = ap length s.parts in absurd (omega arith)

    by : Flagged bytes → Decided (HasMessage Acceptor (78 ∷ bytes))
    by f =
        elim (front_name f.tail f.are_bytes) [
          | inl n ↦ inl
              (SendName f.flags f.number n.0, send_name_body f.flags f.number n.0 f.tail bytes f.flags_fit f.number_fits n.1 f.parts)
          | inr never ↦ inr
              (λ x. never (send_name_named f.flags f.number f.tail bytes f.flags_fit f.number_fits f.parts x.0 x.1))
        ]

challenge_or_not : (bytes : List ℕ) → AreBytes bytes → Decided (HasMessage Dialer (78 ∷ bytes))
challenge_or_not bytes h =
    elim (cases_lt (length bytes) 16) [ inl few ↦ inr (short few) | inr le ↦ by le (flagged bytes h (omega arith)) ]
  where
    short : length bytes < 16 → HasMessage Dialer (78 ∷ bytes) → ⊥
    short few x = let s = challenge_is x.0 bytes x.1 in let l = ap length s.parts in absurd (omega arith)

    by : 16 ≤ length bytes → Flagged bytes → Decided (HasMessage Dialer (78 ∷ bytes))
    by le f =
        let creation = number_4 f.tail in
        let tail = drop 4 f.tail in
        let le4 : 4 ≤ length f.tail = omega (arith, le, f.len) in
        let fits = number_4_fits f.tail f.are_bytes in
        let parts : bytes ≡ to_be_bytes w64 f.flags ++ (to_be_bytes w32 f.number ++ (to_be_bytes w32 creation ++ tail)) =
        f.parts ∙ ap (λ (w : List ℕ). to_be_bytes w64 f.flags ++ (to_be_bytes w32 f.number ++ w)) (parts_4 f.tail f.are_bytes le4) in
        elim (front_name tail (bytes_rest f.tail 4 f.are_bytes)) [
          | inl n ↦ inl (
            Challenge f.flags f.number creation n.0,
            challenge_body f.flags f.number creation n.0 tail bytes f.flags_fit f.number_fits fits n.1 parts,
          )
          | inr never ↦ inr
              (λ x. never (challenge_named f.flags f.number creation tail bytes f.flags_fit f.number_fits fits parts x.0 x.1))
        ]

n_or_not : (role : Role) (bytes : List ℕ) → AreBytes bytes → Decided (HasMessage role (78 ∷ bytes))
n_or_not Dialer bytes h = challenge_or_not bytes h
n_or_not Acceptor bytes h = send_name_or_not bytes h

status_or_not : (role : Role) (text : List ℕ) → Decided (HasMessage role (115 ∷ text))
status_or_not role text = by (bytes_eq text (status_text (status_in text))) refl
  where
    by : (b : Bool) → b ≡ bytes_eq text (status_text (status_in text)) → Decided (HasMessage role (115 ∷ text))
    by true e = inl (Status (status_in text), status_body role (status_in text) text (same_text text (status_text (status_in text)) e))
    by false e =
        inr (λ x.
        let s = status_is role x.0 text x.1 in
        let k : status_in text ≡ s.status = ap status_in s.parts ∙ status_back s.status in
        other_text text (status_text (status_in text)) e (s.parts ∙ sym (ap status_text k)))

reply_or_not : (role : Role) (bytes : List ℕ) → AreBytes bytes → Decided (HasMessage role (114 ∷ bytes))
reply_or_not role bytes h = elim (cases_eq (length bytes) 20) [ inl len ↦ inl (by len) | inr other ↦ inr (λ x. other (long x)) ]
  where
    by : length bytes ≡ 20 → HasMessage role (114 ∷ bytes)
    by len =
        let le : 4 ≤ length bytes = omega arith in
        let l : length (drop 4 bytes) ≡ 16 = omega (arith, length-drop 4 bytes) in (
          ChallengeReply (number_4 bytes) (drop 4 bytes),
          reply_body role (number_4 bytes) (drop 4 bytes) bytes (number_4_fits bytes h) l (parts_4 bytes h le),
        )

    long : HasMessage role (114 ∷ bytes) → length bytes ≡ 20
    long x = let s = reply_is role x.0 bytes x.1 in let l = ap length s.parts in let d = s.len in omega arith

ack_or_not : (role : Role) (bytes : List ℕ) → Decided (HasMessage role (97 ∷ bytes))
ack_or_not role bytes =
    elim (cases_eq (length bytes) 16)
    [ inl len ↦ inl (ChallengeAck bytes, ack_body role bytes len) | inr other ↦ inr (λ x. other (ack_is role x.0 bytes x.1).len) ]

-- the letter with which a message begins
letter : ShakeMsg → ℕ
letter (SendName flags creation name) = 78
letter (Status s) = 115
letter (Challenge flags challenge creation name) = 78
letter (ChallengeReply challenge digest) = 114
letter (ChallengeAck digest) = 97

letter_is : (role : Role) (m : ShakeMsg) (body : List ℕ) → IsBody role m body → body ≡ letter m ∷ drop 1 body
unfolding letter
letter_is role (SendName flags creation name) body b = with_letter 78 body _ b.parts
letter_is role (Status s) body b = with_letter 115 body _ b.parts
letter_is role (Challenge flags challenge creation name) body b = with_letter 78 body _ b.parts
letter_is role (ChallengeReply challenge digest) body b = with_letter 114 body _ b.parts
letter_is role (ChallengeAck digest) body b = with_letter 97 body _ b.parts

other_letter : (m : ShakeMsg) (l : ℕ) → (l ≡ 78 → ⊥) → (l ≡ 115 → ⊥) → (l ≡ 114 → ⊥) → (l ≡ 97 → ⊥) → l ≡ letter m → ⊥
unfolding letter
other_letter (SendName flags creation name) l n s r a e = n e
other_letter (Status t) l n s r a e = s e
other_letter (Challenge flags challenge creation name) l n s r a e = n e
other_letter (ChallengeReply challenge digest) l n s r a e = r e
other_letter (ChallengeAck digest) l n s r a e = a e

moved : (role : Role) (l k : ℕ) (bytes : List ℕ) → l ≡ k → Decided (HasMessage role (k ∷ bytes)) → Decided (HasMessage role (l ∷ bytes))
moved role l k bytes e = subst (λ (x : ℕ). Decided (HasMessage role (x ∷ bytes))) (sym e)

pub message_or_not : (role : Role) (body : List ℕ) → AreBytes body → Decided (HasMessage role body)
message_or_not role [] h = inr (λ x. let e = ap length (letter_is role x.0 [] x.1) in absurd (omega arith))
message_or_not role (l ∷ bytes) h =
    let tail = AreBytes-split (l ∷ bytes) (l ∷ []) bytes h refl in
    elim (cases_eq l 78) [
      | inl e ↦ moved role l 78 bytes e (n_or_not role bytes tail)
      | inr n ↦
          elim (cases_eq l 115) [
            | inl e ↦ moved role l 115 bytes e (status_or_not role bytes)
            | inr s ↦
                elim (cases_eq l 114) [
                  | inl e ↦ moved role l 114 bytes e (reply_or_not role bytes tail)
                  | inr r ↦
                      elim (cases_eq l 97) [
                        | inl e ↦ moved role l 97 bytes e (ack_or_not role bytes)
                        | inr a ↦
                            inr (λ x. other_letter x.0 l n s r a
                            (head_same l (letter x.0) bytes (drop 1 (l ∷ bytes)) (letter_is role x.0 (l ∷ bytes) x.1)))
                      ]
                ]
          ]
    ]
