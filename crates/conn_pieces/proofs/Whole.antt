-- What stands whole at the front of bytes, and lies within a beginning of them, stands at the front of that.
use Rattle.std.proofs.Common.{◌≡◌, inl, inr, ℕ, zero, suc, ◌<◌, ◌≤◌, List, ◌++◌, Some, length, refl, ap, sym, subst, ◌∙◌, arith}
use Rattle.std.proofs.lemmas.List.{take-append-le}
use Rattle.erl_handshake.specs.declared.identity.Identity.{Identity}
use Rattle.erl_handshake.specs.declared.message.Role.{Role}
use Rattle.erl_handshake.specs.declared.message.Role.TheVariants as role
use Rattle.erl_handshake.specs.declared.message.ShakeMsg.{ShakeMsg}
use Rattle.erl_handshake.specs.Messages.{IsShake}
use Rattle.erl_control.specs.Frame.{IsFramed}
use Rattle.conn_core.specs.declared.standing.Standing.{Standing}
use Rattle.conn_core.specs.declared.standing.Standing.TheVariants.{Dialing, Accepting, Up, Losing, Gone}
use Rattle.conn_core.specs.declared.side.Side.{Side}
use Rattle.conn_core.specs.declared.arrival.Arrival.{Arrival}
use Rattle.conn_core.specs.Arrivals.{ArrivalDue, DueAt, FrameDue, MessageDue}
use Rattle.conn_core.specs.Side.{on_message}

-- ---- how many bytes a message takes

abbrev Counts : (own : Identity) (peer : List ℕ) (standing : Standing) (message : ShakeMsg) (word len : ℕ) → Type 0
Counts own peer standing message word len =
    0 < (on_message own peer standing message word len).len → (on_message own peer standing message word len).len ≡ len

counts : (own : Identity) (peer : List ℕ) (standing : Standing) (message : ShakeMsg) (word len : ℕ)
    → Counts own peer standing message word len
counts own peer (Dialing d) message word len h = refl
counts own peer (Accepting a) message word len h = refl
counts own peer (Up introduction) message word len h = absurd (omega arith)
counts own peer (Losing introduction) message word len h = absurd (omega arith)
counts own peer Gone message word len h = absurd (omega arith)

-- ---- at the front of a beginning

module _ (own : Identity) (side : Side) (front more : List ℕ) (word : ℕ) (a : Arrival) (some : 0 < a.len) where
  within : (b : Arrival) → a ≡ b → b.len ≡ 0 → ⊥
  within b e z = let n : a.len ≡ 0 = ap (λ x. x.len) e ∙ z in omega arith

  whole_message : (reader : Role) → a.len ≤ length front → MessageDue reader own side (front ++ more) word (Some a)
      → MessageDue reader own side front word (Some a)
  whole_message reader fits (inl x) =
      let count : a.len ≡ x.1 = ap (λ b. b.len) x.3 ∙ counts own side.peer side.standing x.0 word x.1 (subst (λ b. 0 < b.len) x.3 some) in
      let n : x.1 ≤ length front = subst (λ n. n ≤ length front) count fits in
      inl (x.0, x.1, record { within = n; is_text = subst (IsShake reader x.0) (take-append-le x.1 front more n) x.2.is_text }, x.3)
  whole_message reader fits (inr x) = absurd (within _ x.1 refl)

  whole_frame : (standing : Standing) → a.len ≤ length front → FrameDue standing (front ++ more) (Some a) → FrameDue standing front (Some a)
  whole_frame standing fits (inl x) =
      let n : x.1 ≤ length front = subst (λ n. n ≤ length front) (ap (λ b. b.len) x.3) fits in
      inl (x.0, x.1, (n, subst (IsFramed x.0) (take-append-le x.1 front more n) x.2.1), x.3)
  whole_frame standing fits (inr x) = absurd (within _ x.2 refl)

  whole_at : (standing : Standing) → a.len ≤ length front → DueAt standing own side (front ++ more) word (Some a)
      → DueAt standing own side front word (Some a)
  whole_at (Dialing d) fits h = whole_message role.Dialer fits h
  whole_at (Accepting d) fits h = whole_message role.Acceptor fits h
  whole_at (Up introduction) fits h = whole_frame (Up introduction) fits h
  whole_at (Losing introduction) fits h = absurd h
  whole_at Gone fits h = absurd h

pub whole_due : (own : Identity) (side : Side) (front more : List ℕ) (word : ℕ) (a : Arrival) → 0 < a.len → a.len ≤ length front
    → ArrivalDue own side (front ++ more) word (Some a) → ArrivalDue own side front word (Some a)
whole_due own side front more word a some fits h = whole_at own side front more word a some side.standing fits h

-- ---- what is taken lies in the stream

message_within : (reader : Role) (own : Identity) (side : Side) (bytes : List ℕ) (word : ℕ) (a : Arrival) → 0 < a.len
    → MessageDue reader own side bytes word (Some a) → a.len ≤ length bytes
message_within reader own side bytes word a some (inl x) =
    let count : a.len ≡ x.1 = ap (λ b. b.len) x.3 ∙ counts own side.peer side.standing x.0 word x.1 (subst (λ b. 0 < b.len) x.3 some) in
    subst (λ n. n ≤ length bytes) (sym count) x.2.within
message_within reader own side bytes word a some (inr x) = let z : a.len ≡ 0 = ap (λ b. b.len) x.1 in absurd (omega arith)

frame_within : (standing : Standing) (bytes : List ℕ) (a : Arrival) → FrameDue standing bytes (Some a) → a.len ≤ length bytes
frame_within standing bytes a (inl x) = subst (λ n. n ≤ length bytes) (sym (ap (λ b. b.len) x.3)) x.2.0
frame_within standing bytes a (inr x) = let z : a.len ≡ 0 = ap (λ b. b.len) x.2 in omega arith

within_at : (standing : Standing) (own : Identity) (side : Side) (bytes : List ℕ) (word : ℕ) (a : Arrival) → 0 < a.len
    → DueAt standing own side bytes word (Some a) → a.len ≤ length bytes
within_at (Dialing d) own side bytes word a some h = message_within role.Dialer own side bytes word a some h
within_at (Accepting d) own side bytes word a some h = message_within role.Acceptor own side bytes word a some h
within_at (Up introduction) own side bytes word a some h = frame_within (Up introduction) bytes a h
within_at (Losing introduction) own side bytes word a some h = absurd h
within_at Gone own side bytes word a some h = absurd h

none_or_within : (n m : ℕ) → (0 < n → n ≤ m) → n ≤ m
none_or_within zero m h = omega arith
none_or_within (suc n) m h = h (omega arith)

pub due_within : (own : Identity) (side : Side) (bytes : List ℕ) (word : ℕ) (a : Arrival)
    → ArrivalDue own side bytes word (Some a) → a.len ≤ length bytes
due_within own side bytes word a h = none_or_within a.len (length bytes) (λ some. within_at side.standing own side bytes word a some h)
