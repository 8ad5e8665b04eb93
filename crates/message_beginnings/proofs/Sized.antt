-- Bodies of a known length.
use Rattle.std.proofs.Common.{◌≡◌, ℕ, suc, ◌+◌, ◌-◌, ◌<◌, ◌≤◌, List, [], ◌∷◌, ◌++◌, length, take, replicate}
use Rattle.std.proofs.Common.{ap, refl, sym, ◌∙◌, subst, append_assoc, arith, length-append, length-take}
use Rattle.std.proofs.lemmas.List.{take_all, length-replicate}
use Rattle.readers.specs.Places.{Begins}
use Rattle.readers.specs.Reading.{AreBytes}
use Rattle.erl_handshake.specs.declared.message.Role.{Role}
use Rattle.erl_handshake.specs.declared.message.ShakeMsg.{ShakeMsg}
use Rattle.erl_handshake.specs.declared.message.ShakeMsg.TheVariants.{SendName, Status, Challenge, ChallengeReply, ChallengeAck}
use Rattle.erl_handshake.specs.Messages.{counted}
use Rattle.erl_handshake.specs.Reading.{BeginsWithName}
use Rattle.erl_handshake.proofs.Bytes.{length-counted}
use Rattle.erl_handshake.proofs.Bodies.{status_is, status_body, ack_is, ack_body}
use Rattle.message_beginnings.specs.Parts.{IsNameBehind, IsStatusTextOf, IsBodyOf, fields_len}
use Rattle.message_beginnings.proofs.Fronts.{AreBytes-append, zeros, take-append, at_least_three}
use Rattle.message_beginnings.proofs.Letters.{named_text, text_named, reply_text, text_reply, to_len}

-- ---- a name, and what follows it

fits_take : (n : ℕ) (xs ys : List ℕ) → length xs ≤ n → take n (xs ++ ys) ≡ xs ++ take (n - length xs) ys
fits_take n xs ys le = take-append n xs ys ∙ ap (λ (w : List ℕ). w ++ take (n - length xs) ys) (take_all n xs le)

-- what follows a name is cut off or filled up, so that a body of the length comes about
record Fitted (before len : ℕ) (name fields : List ℕ) : Type 0 where
  more : List ℕ
  is_text : IsNameBehind before 64 name (fields ++ more)
  len_is : suc (length (fields ++ more)) ≡ len

fitted : (before len : ℕ) (name fields more : List ℕ) → length fields < len
    → IsNameBehind before (len - (before + 3)) name (fields ++ more) → Fitted before len name fields
fitted before len name fields more lt t =
    record {
      more = cut_more;
      is_text = record {
        front = t.front;
        tail = counted name ++ cut_rest;
        front_len = t.front_len;
        are_bytes = t.are_bytes;
        is_counted = record { begins = record { rest = cut_rest; is_name = n.is_name; parts = refl }; short = n.is_name.short };
        parts = same ∙ append_assoc t.front (counted name) cut_rest;
      };
      len_is = let e : suc all ≡ len = omega arith in ap suc full ∙ e;
    }
  where
    n : BeginsWithName t.tail name
    n = t.is_counted.begins

    all : ℕ
    all = len - 1

    fill : List ℕ
    fill = replicate all 0

    head : List ℕ
    head = t.front ++ counted name

    cut_more : List ℕ
    cut_more = take (all - length fields) (more ++ fill)

    cut_rest : List ℕ
    cut_rest = take (all - length head) (n.rest ++ fill)

    whole : fields ++ (more ++ fill) ≡ head ++ (n.rest ++ fill)
    whole =
        sym (append_assoc fields more fill)
        ∙ ap (λ (w : List ℕ). w ++ fill) (t.parts ∙ ap (λ (w : List ℕ). t.front ++ w) n.parts ∙ sym (append_assoc t.front (counted name) n.rest))
        ∙ append_assoc head n.rest fill

    head_fits : length head ≤ all
    head_fits =
        let s = t.is_counted.short in
        let l = t.front_len in
        omega (arith, at_least_three name n.is_name, length-append t.front (counted name), length-counted name)

    cut_is : take all (fields ++ (more ++ fill)) ≡ fields ++ cut_more
    cut_is = fits_take all fields (more ++ fill) (omega arith)

    full : length (fields ++ cut_more) ≡ all
    full =
        ap length (sym cut_is)
        ∙ length-take all (fields ++ (more ++ fill))
        ∙ omega (arith, length-append fields (more ++ fill), length-append more fill, length-replicate {A = ℕ} all 0)

    same : fields ++ cut_more ≡ head ++ cut_rest
    same = sym cut_is ∙ ap (take all) whole ∙ fits_take all head (n.rest ++ fill) head_fits

-- and back, a name has room
has_room : (before len : ℕ) (name bytes : List ℕ) → suc (length bytes) ≡ len → IsNameBehind before 64 name bytes
    → IsNameBehind before (len - (before + 3)) name bytes
has_room before len name bytes e t =
    let n = t.is_counted.begins in
    let l = t.front_len in
    record {
      front = t.front;
      tail = t.tail;
      front_len = t.front_len;
      are_bytes = t.are_bytes;
      is_counted = record {
        begins = n;
        short = omega (
          arith,
          ap length t.parts,
          length-append t.front t.tail,
          ap length n.parts,
          length-append (counted name) n.rest,
          length-counted name,
        );
      };
      parts = t.parts;
    }

pub named_begins_of : (role : Role) (len : ℕ) (fields : List ℕ) → length fields < len
    → Begins (IsNameBehind (fields_len role) (len - (fields_len role + 3))) fields → Begins (IsBodyOf role len) (78 ∷ fields)
named_begins_of role len fields lt b =
    let f = fitted (fields_len role) len b.value fields b.more lt b.is_text in
    let t = named_text role b.value (fields ++ f.more) f.is_text in
    record { value = t.0; more = f.more; is_text = (t.1, f.len_is) }

pub begun_named_of : (role : Role) (len : ℕ) (fields : List ℕ) → Begins (IsBodyOf role len) (78 ∷ fields)
    → Begins (IsNameBehind (fields_len role) (len - (fields_len role + 3))) fields
begun_named_of role len fields b =
    let t = text_named role b.value (fields ++ b.more) b.is_text.0 in
    record { value = t.0; more = b.more; is_text = has_room (fields_len role) len t.0 (fields ++ b.more) b.is_text.1 t.1 }

pub within : (role : Role) (len letter : ℕ) (fields : List ℕ) → Begins (IsBodyOf role len) (letter ∷ fields) → length fields < len
within role len letter fields b = omega (arith, b.is_text.1, length-append fields b.more)

-- ---- the other letters

pub status_begins_of : (role : Role) (len : ℕ) (fields : List ℕ) → Begins (IsStatusTextOf len) fields
    → Begins (IsBodyOf role len) (115 ∷ fields)
status_begins_of role len fields b = record {
  value = Status b.value;
  more = b.more;
  is_text = (status_body role b.value (fields ++ b.more) b.is_text.0, b.is_text.1);
}

pub begun_status_of : (role : Role) (len : ℕ) (fields : List ℕ) → Begins (IsBodyOf role len) (115 ∷ fields)
    → Begins (IsStatusTextOf len) fields
begun_status_of role len fields b =
    let s = status_is role b.value (fields ++ b.more) b.is_text.0 in
    record { value = s.status; more = b.more; is_text = (s.parts, b.is_text.1) }

pub reply_begins_of : (role : Role) (len : ℕ) (fields : List ℕ) → AreBytes fields → len ≡ 21 → length fields ≤ 20
    → Begins (IsBodyOf role len) (114 ∷ fields)
reply_begins_of role len fields h e le =
    let fill = replicate (20 - length fields) 0 in
    let l = to_len 20 fields le in
    let t = reply_text role (fields ++ fill) (AreBytes-append fields fill h (zeros (20 - length fields))) l in
    record { value = t.0; more = fill; is_text = (t.1, ap suc l ∙ sym e) }

pub begun_reply_of : (role : Role) (len : ℕ) (fields : List ℕ) → Begins (IsBodyOf role len) (114 ∷ fields)
    → (len ≡ 21) × (length fields ≤ 20)
begun_reply_of role len fields b =
    let l = text_reply role b.value (fields ++ b.more) b.is_text.0 in
    (sym b.is_text.1 ∙ ap suc l, omega (arith, l, length-append fields b.more))

pub ack_begins_of : (role : Role) (len : ℕ) (fields : List ℕ) → len ≡ 17 → length fields ≤ 16
    → Begins (IsBodyOf role len) (97 ∷ fields)
ack_begins_of role len fields e le =
    let fill = replicate (16 - length fields) 0 in
    let l = to_len 16 fields le in
    record { value = ChallengeAck (fields ++ fill); more = fill; is_text = (ack_body role (fields ++ fill) l, ap suc l ∙ sym e) }

pub begun_ack_of : (role : Role) (len : ℕ) (fields : List ℕ) → Begins (IsBodyOf role len) (97 ∷ fields)
    → (len ≡ 17) × (length fields ≤ 16)
begun_ack_of role len fields b =
    let s = ack_is role b.value (fields ++ b.more) b.is_text.0 in
    (sym b.is_text.1 ∙ ap suc s.len, omega (arith, s.len, length-append fields b.more))

-- ---- no bytes

-- a body has a first letter
pub data HasLetter (role : Role) (len : ℕ) : Type 0 where
  letter_n : Begins (IsBodyOf role len) (78 ∷ []) → HasLetter role len
  letter_s : Begins (IsBodyOf role len) (115 ∷ []) → HasLetter role len
  letter_r : Begins (IsBodyOf role len) (114 ∷ []) → HasLetter role len
  letter_a : Begins (IsBodyOf role len) (97 ∷ []) → HasLetter role len

with_letter : (role : Role) (len letter : ℕ) (m : ShakeMsg) (body w : List ℕ) → body ≡ letter ∷ w → IsBodyOf role len m body
    → Begins (IsBodyOf role len) (letter ∷ [])
with_letter role len letter m body w e t = record { value = m; more = w; is_text = subst (IsBodyOf role len m) e t }

pub has_letter : (role : Role) (len : ℕ) → Begins (IsBodyOf role len) [] → HasLetter role len
has_letter role len b = by b.value b.more b.is_text
  where
    by : (m : ShakeMsg) (body : List ℕ) → IsBodyOf role len m body → HasLetter role len
    by (SendName flags creation name) body t = letter_n (with_letter role len 78 (SendName flags creation name) body _ t.0.parts t)
    by (Status s) body t = letter_s (with_letter role len 115 (Status s) body _ t.0.parts t)
    by (Challenge flags challenge creation name) body t =
        letter_n (with_letter role len 78 (Challenge flags challenge creation name) body _ t.0.parts t)
    by (ChallengeReply challenge digest) body t = letter_r (with_letter role len 114 (ChallengeReply challenge digest) body _ t.0.parts t)
    by (ChallengeAck digest) body t = letter_a (with_letter role len 97 (ChallengeAck digest) body _ t.0.parts t)

pub no_letter : (role : Role) (len letter : ℕ) → Begins (IsBodyOf role len) (letter ∷ []) → Begins (IsBodyOf role len) []
no_letter role len letter b = record { value = b.value; more = letter ∷ b.more; is_text = b.is_text }
