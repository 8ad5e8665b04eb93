-- Bytes of which a reader answers no item are those of none.
use Rattle.std.proofs.Common.{◌≡◌, ◌⊎◌, inl, inr, ℕ, true, false, List, [], ◌++◌, length, Option, None, Some, Result, Ok, Err, sym, ap, subst, ◌∙◌}
use Rattle.std.proofs.Common.{append-nil}
use Rattle.erl_control.specs.Answer.{IsFrameDue}
use Rattle.erl_control.specs.Frame.{IsFramed}
use Rattle.erl_control.specs.declared.error.FrameError.{FrameError}
use Rattle.erl_control.specs.declared.signal.Item.{Item as FrameItem}
use Rattle.erl_control.specs.declared.signal.Item.TheVariants as frame
use Rattle.erl_handshake.proofs.Dues.{due_again}
use Rattle.erl_handshake.specs.Answer.{IsShakeDue}
use Rattle.erl_handshake.specs.Messages.{IsShake}
use Rattle.erl_handshake.specs.declared.message.Role.{Role}
use Rattle.erl_handshake.specs.declared.message.ShakeMsg.{ShakeMsg}
use Rattle.erl_term.specs.declared.refusal.Refusal.{Refusal}
use Rattle.item_texts.specs.Reading.{IsRead, reader_in}
use Rattle.item_texts.specs.declared.reading.ReadItem.TheVariants as read
use Rattle.node_frames.specs.Beginnings.{begins_message}

-- what is due is what is answered, or that memory is wanting
abbrev pub Only : {X E : Type 0} → (Result (Option (X × ℕ)) E → Type 0) → Result (Option (X × ℕ)) E → (memory : E) → Type 0
Only {X} {E} Due answer memory = (due : Result (Option (X × ℕ)) E) → Due due → (answer ≡ due) ⊎ (answer ≡ Err memory)

-- neither that all of the bytes are a value, nor that memory is wanting
abbrev pub IsNoValue : {X E : Type 0} → Result (Option (X × ℕ)) E → ℕ → (memory : E) → Type 0
IsNoValue {X} {E} answer n memory = ((x : X) → answer ≡ Ok (Some (x, n)) → ⊥) × (answer ≡ Err memory → ⊥)

never : {X E : Type 0} (Due : Result (Option (X × ℕ)) E → Type 0) (answer : Result (Option (X × ℕ)) E) (memory : E) (n : ℕ) (x : X)
    → Only Due answer memory → IsNoValue answer n memory → Due (Ok (Some (x, n))) → ⊥
never Due answer memory n x only none due = elim (only (Ok (Some (x, n))) due) [ inl h ↦ none.0 x h | inr h ↦ none.1 h ]

-- ---- the answers that are no value

pub shorter : {X E : Type 0} (answer : Result (Option (X × ℕ)) E) (x : X) (taken n : ℕ) (memory : E) → answer ≡ Ok (Some (x, taken))
    → (taken ≡ n → ⊥) → IsNoValue answer n memory
shorter {X} {E} answer x taken n memory is other = (λ y e. other (ap place (sym is ∙ e)), λ e. let no = sym is ∙ e in cc)
  where
    place : Result (Option (X × ℕ)) E → ℕ
    place (Ok (Some z)) = z.1
    place (Ok None) = n
    place (Err why) = n

pub refused : {X E : Type 0} (answer : Result (Option (X × ℕ)) E) (why : E) (n : ℕ) (memory : E) → answer ≡ Err why → (why ≡ memory → ⊥)
    → IsNoValue answer n memory
refused {X} {E} answer why n memory is other = (λ y e. let no = sym is ∙ e in cc, λ e. other (ap fault (sym is ∙ e)))
  where
    fault : Result (Option (X × ℕ)) E → E
    fault (Ok z) = why
    fault (Err k) = k

-- ---- frames

-- a frame is read again, whatever follows it
abbrev pub FrameAgain : Type 0
FrameAgain = (item : FrameItem) (bytes rest : List ℕ) → IsFramed item bytes → IsFrameDue (bytes ++ rest) (Ok (Some (item, length bytes)))

frame_due : FrameAgain → (item : FrameItem) (bytes : List ℕ) → IsFramed item bytes → IsFrameDue bytes (Ok (Some (item, length bytes)))
frame_due again item bytes is = subst (λ b. IsFrameDue b (Ok (Some (item, length bytes)))) (append-nil bytes) (again item bytes [] is)

-- a reader that has no frame of all the bytes reads none
pub no_frame : FrameAgain → (bytes : List ℕ) (answer : Result (Option (FrameItem × ℕ)) FrameError) → begins_message bytes ≡ Some false
    → Only (IsFrameDue bytes) answer FrameError.OutOfMemory → IsNoValue answer (length bytes) FrameError.OutOfMemory → IsRead bytes None
no_frame again bytes answer b only none (read.Signal signal) is =
    never (IsFrameDue bytes) answer FrameError.OutOfMemory (length bytes) (frame.Signal signal) only none
    (frame_due again (frame.Signal signal) bytes is.1)
no_frame again bytes answer b only none read.Tick is =
    never (IsFrameDue bytes) answer FrameError.OutOfMemory (length bytes) frame.Tick only none (frame_due again frame.Tick bytes is.1)
no_frame again bytes answer b only none (read.Message message) is = let message_too = sym b ∙ is.0 in cc

-- ---- messages

message_due : (role : Role) (message : ShakeMsg) (bytes : List ℕ) → IsShake role message bytes
    → IsShakeDue role bytes (Ok (Some (message, length bytes)))
message_due role message bytes is =
    subst (λ b. IsShakeDue role b (Ok (Some (message, length bytes)))) (append-nil bytes) (due_again role message bytes [] is)

-- a reader that has no message of all the bytes reads none
pub no_message : (role : Role) (bytes : List ℕ) (answer : Result (Option (ShakeMsg × ℕ)) Refusal) → role ≡ reader_in bytes
    → begins_message bytes ≡ Some true → Only (IsShakeDue role bytes) answer Refusal.OutOfMemory
    → IsNoValue answer (length bytes) Refusal.OutOfMemory → IsRead bytes None
no_message role bytes answer e b only none (read.Signal signal) is = let frame_too = sym b ∙ is.0 in cc
no_message role bytes answer e b only none read.Tick is = let frame_too = sym b ∙ is.0 in cc
no_message role bytes answer e b only none (read.Message message) is =
    never (IsShakeDue role bytes) answer Refusal.OutOfMemory (length bytes) message only none
    (message_due role message bytes (subst (λ r. IsShake r message bytes) (sym e) is.1))
