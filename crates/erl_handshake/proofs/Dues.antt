-- The answer that is due to bytes: that there is one, and no other.
use Rattle.std.proofs.Common.{◌^◌, lit<, append_assoc, ◌≡◌, ℕ, ◌+◌, ◌<◌, List, [], ◌++◌, length, take, drop, Option, Some}
use Rattle.std.proofs.Common.{None, Result, Ok, Err, ap, sym, refl, subst, ◌∙◌, arith, length-append, ◌⊎◌, inl, inr}
use Rattle.std.specs.Prelude.{IsErrOf}
use Rattle.std.specs.Option.{ok_or}
use Rattle.std.proofs.Math.Seq.{take-append_seam}
use Rattle.std.proofs.lemmas.List.{take-append-drop, append-nil}
use Rattle.std.specs.Int.{to_be_bytes, w16}
use Rattle.readers.specs.Reading.{AreBytes}
use Rattle.readers.proofs.Places.{AreBytes-front}
use Rattle.readers.proofs.Sequence.{AreBytes-split}
use Rattle.readers.specs.Places.{IsAtFront}
use Rattle.erl_term.specs.declared.refusal.Refusal.{Refusal}
use Rattle.erl_term.specs.declared.refusal.Refusal.TheVariants.{BadMessage, OutOfMemory}
use Rattle.erl_handshake.specs.declared.message.Role.{Role}
use Rattle.erl_handshake.specs.declared.status.Status.TheVariants as status
use Rattle.erl_handshake.specs.declared.message.ShakeMsg.{ShakeMsg}
use Rattle.erl_handshake.specs.declared.message.ShakeMsg.TheVariants.{SendName, Status, Challenge, ChallengeReply, ChallengeAck}
use Rattle.erl_handshake.specs.Messages.{counted, content, HasFields, IsFor, MayFollow, IsBody, IsShake, written}
use Rattle.erl_handshake.specs.Answer.{HasBody, IsBegun, IsNone, IsShakeDue}
use Rattle.erl_handshake.specs.Reading.{Decides, ReadsBody}
use Rattle.erl_handshake.proofs.Bytes.{front_len, length-counted, one_counted, one_body, begun_or_not, begun_or_whole}
use Rattle.erl_handshake.proofs.Bodies.{one_message}
use Rattle.erl_handshake.proofs.Decided.{HasMessage, message_or_not}

-- ---- a message at the front

pub at_front : (role : Role) (m : ShakeMsg) (bytes body : List ℕ) → HasBody bytes body → IsBody role m body
    → IsAtFront (IsShake role) bytes m (length body + 2)
at_front role m bytes body h b =
    let len : length (counted body) ≡ length body + 2 = length-counted body ∙ omega arith in
    let long : length bytes ≡ length (counted body) + length h.rest = ap length h.parts ∙ length-append (counted body) h.rest in
    record {
      within = omega arith;
      is_text = record {
        body = body;
        is_body = b;
        short = h.short;
        parts = ap (λ (n : ℕ). take n bytes) (sym len) ∙ ap (λ (w : List ℕ). take (length (counted body)) w) h.parts
            ∙ take-append_seam (counted body) h.rest;
      };
    }

record FrontMessage (role : Role) (bytes : List ℕ) (m : ShakeMsg) (n : ℕ) : Type 0 where
  body : List ℕ
  has_body : HasBody bytes body
  is_body : IsBody role m body
  len : n ≡ length body + 2

has_message : (role : Role) (m : ShakeMsg) (bytes : List ℕ) (n : ℕ) → IsAtFront (IsShake role) bytes m n → FrontMessage role bytes m n
has_message role m bytes n f =
    let s = f.is_text in
    let len : n ≡ length (take n bytes) = sym (front_len bytes (take n bytes) n f.within refl) in
    record {
      body = s.body;
      has_body = record
          { rest = drop n bytes; short = s.short; parts = sym (take-append-drop n bytes) ∙ ap (λ (w : List ℕ). w ++ drop n bytes) s.parts };
      is_body = s.is_body;
      len = len ∙ ap length s.parts ∙ length-counted s.body ∙ omega arith;
    }

-- ---- no other answer is due

nothing_due : (role : Role) (bytes : List ℕ) → IsBegun bytes → IsNone role bytes → ⊥
nothing_due role bytes p q = begun_or_not bytes q.0 q.1 p

none_or_some : (role : Role) (bytes : List ℕ) (m : ShakeMsg) (n : ℕ) → IsNone role bytes → IsAtFront (IsShake role) bytes m n → ⊥
none_or_some role bytes m n q f =
    let h = has_message role m bytes n f in
    q.2 m (subst (IsBody role m) (one_body bytes h.body q.0 h.has_body q.1) h.is_body)

begun_or_some : (role : Role) (bytes : List ℕ) (m : ShakeMsg) (n : ℕ) → IsBegun bytes → IsAtFront (IsShake role) bytes m n → ⊥
begun_or_some role bytes m n p f = let h = has_message role m bytes n f in begun_or_not bytes h.body h.has_body p

same_some : (role : Role) (bytes : List ℕ) (x y : ShakeMsg × ℕ) → IsAtFront (IsShake role) bytes x.0 x.1
    → IsAtFront (IsShake role) bytes y.0 y.1 → x ≡ y
same_some role bytes x y f g =
    let h = has_message role x.0 bytes x.1 f in
    let k = has_message role y.0 bytes y.1 g in
    let body = one_body bytes h.body k.body h.has_body k.has_body in
    let m : x.0 ≡ y.0 = one_message role x.0 y.0 k.body (subst (IsBody role x.0) body h.is_body) k.is_body in
    let n : x.1 ≡ y.1 = h.len ∙ ap (λ (w : List ℕ). length w + 2) body ∙ sym k.len in
    ap (λ (z : ShakeMsg). (z, x.1)) m ∙ ap (λ (z : ℕ). (y.0, z)) n

pub due_once : (role : Role) (bytes : List ℕ) (a b : Result (Option (ShakeMsg × ℕ)) Refusal) → IsShakeDue role bytes a
    → IsShakeDue role bytes b → a ≡ b
due_once role bytes (Ok None) (Ok None) p q = refl
due_once role bytes (Ok None) (Ok (Some y)) p q = absurd (begun_or_some role bytes y.0 y.1 p q)
due_once role bytes (Ok None) (Err f) p q = absurd (nothing_due role bytes p q.1)
due_once role bytes (Ok (Some x)) (Ok None) p q = absurd (begun_or_some role bytes x.0 x.1 q p)
due_once role bytes (Ok (Some x)) (Ok (Some y)) p q = ap (λ (z : ShakeMsg × ℕ). Ok (Some z)) (same_some role bytes x y p q)
due_once role bytes (Ok (Some x)) (Err f) p q = absurd (none_or_some role bytes x.0 x.1 q.1 p)
due_once role bytes (Err e) (Ok None) p q = absurd (nothing_due role bytes q p.1)
due_once role bytes (Err e) (Ok (Some y)) p q = absurd (none_or_some role bytes y.0 y.1 p.1 q)
due_once role bytes (Err e) (Err f) p q = ap (λ (z : Refusal). Err z) (p.0 ∙ sym q.0)

-- ---- what the readers of parts decide

pub decides_err : {A B : Type 0} (S : A → Type 0) (T : B → Type 0) (e : Refusal) → ((b : B) → T b → (a : A) × S a)
    → ((a : A) → S a → (b : B) × T b) → Decides S (Err e) → Decides T (Err e)
decides_err S T e back to (inl p) = inl (p.0, λ b t. let a = back b t in p.1 a.0 a.1)
decides_err S T e back to (inr p) = inr (p.0, to p.1.0 p.1.1)

pub decides_option : (role : Role) (body : List ℕ) (o : Option ShakeMsg) → ReadsBody body o
    → Decides (λ m. IsBody role m body) (ok_or o BadMessage)
decides_option role body None h = inl (refl, λ m b. h role m b)
decides_option role body (Some m) h = h role

abbrev pub refused : Refusal → Result (Option (ShakeMsg × ℕ)) Refusal
refused e = Err e

-- what a reader answers that found no message in the body
pub err_only : (role : Role) (bytes body : List ℕ) (e : Refusal) (due : Result (Option (ShakeMsg × ℕ)) Refusal)
    → HasBody bytes body → Decides (λ m. IsBody role m body) (Err e) → IsShakeDue role bytes due
    → (refused e ≡ due) ⊎ IsErrOf (refused e) OutOfMemory
err_only role bytes body e due h (inl p) d = inl (due_once role bytes (Err e) due (p.0, (body, h, p.1)) d)
err_only role bytes body e due h (inr p) d = inr (ap (λ (z : Refusal). Err z) p.0)

pub due_memory : (role : Role) (bytes body : List ℕ) (e : Refusal) → HasBody bytes body
    → Decides (λ m. IsBody role m body) (Err e) → IsErrOf (refused e) OutOfMemory
    → (m : ShakeMsg) × (n : ℕ) × IsAtFront (IsShake role) bytes m n
due_memory role bytes body e h (inl p) o = absurd (other p.0 o)
  where
    other : e ≡ BadMessage → refused e ≡ refused OutOfMemory → ⊥
    other p o = let k : e ≡ OutOfMemory = cc in let l : BadMessage ≡ OutOfMemory = sym p ∙ k in cc
due_memory role bytes body e h (inr p) o = (p.1.0, length body + 2, at_front role p.1.0 bytes body h p.1.1)

-- ---- the laws

due_of_body : (role : Role) (bytes body : List ℕ) → HasBody bytes body → HasMessage role body ⊎ (HasMessage role body → ⊥)
    → (due : Result (Option (ShakeMsg × ℕ)) Refusal) × IsShakeDue role bytes due
due_of_body role bytes body h (inl x) = (Ok (Some (x.0, length body + 2)), at_front role x.0 bytes body h x.1)
due_of_body role bytes body h (inr never) = (Err BadMessage, (refl, (body, h, λ m b. never (m, b))))

pub some_due : (role : Role) (bytes : List ℕ) → AreBytes bytes → (due : Result (Option (ShakeMsg × ℕ)) Refusal) × IsShakeDue role bytes due
some_due role bytes h = by (begun_or_whole bytes h)
  where
    body_bytes : (body : List ℕ) → HasBody bytes body → AreBytes body
    body_bytes body b =
        AreBytes-front body b.rest (AreBytes-split bytes (to_be_bytes w16 (length body)) (body ++ b.rest) h
        (b.parts ∙ append_assoc (to_be_bytes w16 (length body)) body b.rest))

    by : IsBegun bytes ⊎ ((body : List ℕ) × HasBody bytes body) → (due : Result (Option (ShakeMsg × ℕ)) Refusal) × IsShakeDue role bytes due
    by (inl begun) = (Ok None, begun)
    by (inr b) = due_of_body role bytes b.0 b.1 (message_or_not role b.0 (body_bytes b.0 b.1))

pub same_message : (role : Role) (m k : ShakeMsg) (a b x y : List ℕ) → IsShake role m a → IsShake role k b → a ++ x ≡ b ++ y
    → (m ≡ k) × (a ≡ b)
same_message role m k a b x y p q e =
    let whole : counted p.body ++ x ≡ counted q.body ++ y =
    ap (λ (w : List ℕ). w ++ x) (sym p.parts) ∙ e ∙ ap (λ (w : List ℕ). w ++ y) q.parts in
    let body = (one_counted p.body q.body x y p.short q.short whole).0 in
    (one_message role m k q.body (subst (IsBody role m) body p.is_body) q.is_body, p.parts ∙ ap counted body ∙ sym q.parts)

pub due_again : (role : Role) (m : ShakeMsg) (bytes rest : List ℕ) → IsShake role m bytes
    → IsAtFront (IsShake role) (bytes ++ rest) m (length bytes)
due_again role m bytes rest s = record {
  within = omega (arith, length-append bytes rest);
  is_text = subst (IsShake role m) (sym (take-append_seam bytes rest)) s;
}

content_short : (m : ShakeMsg) → HasFields m → length (content m) < 2 ^ 16
content_short (SendName flags creation name) h = let s = (h.2).short in omega arith
content_short (Status status.Ok) h = lit< tt
content_short (Challenge flags challenge creation name) h = let s = (h.3).short in omega arith
content_short (ChallengeReply challenge digest) h = let l = h.1 in omega arith
content_short (ChallengeAck digest) h = omega arith
content_short (Status _) h = lit< tt

nothing_follows : (m : ShakeMsg) → MayFollow m []
nothing_follows (SendName flags creation name) = tt
nothing_follows (Challenge flags challenge creation name) = tt
nothing_follows _ = refl

pub written_shake : (role : Role) (m : ShakeMsg) → IsFor role m → HasFields m → IsShake role m (written m)
written_shake role m f h = record {
  body = content m;
  is_body = record { rest = []; has_fields = h; is_for = f; may_follow = nothing_follows m; parts = sym (append-nil (content m)) };
  short = content_short m h;
  parts = refl;
}
