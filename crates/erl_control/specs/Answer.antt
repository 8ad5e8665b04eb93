-- The answer that is due to bytes of which a frame stands, or begins, at the front.
-- (ERTS User's Guide, Distribution Protocol, Protocol between Connected Nodes.)
use Rattle.std.specs.Prelude.{◌≡◌, ◌≢◌, ℕ, ◌+◌, ◌<◌, ◌≤◌, ◌⊎◌, List, [], ◌∷◌, ◌++◌, length, take, Option, Some, None, is_some, Bool, true, Result, Ok, Err}
use Rattle.byteorder.specs.Endian.{big_number}
use Rattle.erl_term.specs.declared.error.TermError.{TermError}
use Rattle.erl_term.specs.Data.{Data}
use Rattle.erl_term.specs.Spelling.{IsNumber, IsSpelling}
use Rattle.erl_term.specs.Answer.{IsDue}
use Rattle.erl_control.specs.declared.error.FrameError.{FrameError}
use Rattle.erl_control.specs.declared.error.FrameError.TheVariants.{NotPassThrough, BadControl, TooLong, Term, OutOfMemory}
use Rattle.erl_control.specs.declared.signal.Signal.{Signal}
use Rattle.erl_control.specs.declared.signal.Item.{Item}
use Rattle.erl_control.specs.Control.{control_in, message_in, HasId, Carries, IsFit}
use Rattle.erl_control.specs.Frame.{limit, IsSignalText, IsFramed}

-- the frame at the front is whole, and its length is followed by this body
pub record HasBody (bytes body : List ℕ) : Type 0 where
  pub len : List ℕ
  pub rest : List ℕ
  pub number : IsNumber 4 (length body) len
  pub short : length body ≤ limit
  pub parts : bytes ≡ len ++ (body ++ rest)

-- more bytes are needed: for the length, or for what it counts
abbrev pub IsBegun : List ℕ → Type 0
IsBegun bytes = (length bytes < 4) ⊎ ((big_number 4 bytes ≤ limit) × (length bytes < 4 + big_number 4 bytes))

abbrev pub IsLong : List ℕ → Type 0
IsLong bytes = (4 ≤ length bytes) × (limit < big_number 4 bytes)

-- ---- what can be wrong with the text behind pass-through

-- the message behind a control term doesn't read
pub record IsMessageFault (text : List ℕ) (e : TermError) : Type 0 where
  pub signal : Signal
  pub payload : Bool
  pub unused : Data
  pub control : List ℕ
  pub message : List ℕ
  pub spelled : IsSpelling 64 (control_in unused signal payload) control
  pub followed : is_some (message_in signal payload) ≡ true
  pub fault : IsDue message (Err e)
  pub parts : text ≡ control ++ message

-- a term doesn't read: the control term, or the message
abbrev pub IsTermFault : List ℕ → TermError → Type 0
IsTermFault text e = IsDue text (Err e) ⊎ IsMessageFault text e

-- the term is a row of the table
abbrev pub IsRow : Data → Type 0
IsRow t = (signal : Signal) × (payload : Bool) × (unused : Data) × HasId signal × (t ≡ control_in unused signal payload)

-- the term at the front is no row of the table
abbrev pub IsNoRow : List ℕ → Type 0
IsNoRow text = (t : Data) × (n : ℕ) × IsDue text (Ok (t, n)) × (¬ IsRow t)

-- bytes are left over behind the signal
abbrev pub IsLeftOver : List ℕ → Type 0
IsLeftOver text = (signal : Signal) × (front : List ℕ) × (rest : List ℕ) × IsSignalText signal front × (rest ≢ []) × (text ≡ front ++ rest)

abbrev pub IsBadControl : List ℕ → Type 0
IsBadControl text = IsNoRow text ⊎ IsLeftOver text

-- the message or the reason doesn't fit
abbrev pub IsUnfit : List ℕ → Type 0
IsUnfit text = (signal : Signal) × IsSignalText signal text × (¬ Carries IsFit signal)

-- ---- the answer

-- want of memory is never due
abbrev pub IsFrameDue : List ℕ → Result (Option (Item × ℕ)) FrameError → Type 0
IsFrameDue bytes (Ok None) = IsBegun bytes
IsFrameDue bytes (Ok (Some x)) = (x.1 ≤ length bytes) × IsFramed x.0 (take x.1 bytes)
IsFrameDue bytes (Err TooLong) = IsLong bytes ⊎ ((text : List ℕ) × HasBody bytes (112 ∷ text) × IsUnfit text)
IsFrameDue bytes (Err NotPassThrough) = (first : ℕ) × (text : List ℕ) × HasBody bytes (first ∷ text) × (first ≢ 112)
IsFrameDue bytes (Err (Term e)) = (text : List ℕ) × HasBody bytes (112 ∷ text) × IsTermFault text e
IsFrameDue bytes (Err BadControl) = (text : List ℕ) × HasBody bytes (112 ∷ text) × IsBadControl text
IsFrameDue bytes (Err OutOfMemory) = ⊥
