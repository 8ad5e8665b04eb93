-- The frames of an item.
-- (ERTS User's Guide, Distribution Protocol, Protocol between Connected Nodes.)
use Rattle.std.specs.Prelude.{◌≡◌, ℕ, suc, ◌≤◌, List, [], ◌∷◌, ◌++◌, length, Bool, Option, Some, None}
use Rattle.erl_term.specs.Data.{Data}
use Rattle.erl_term.specs.Spelling.{IsNumber, IsSpelling}
use Rattle.erl_control.specs.declared.unframing.TheConstants.{FRAME_LIMIT}
use Rattle.erl_control.specs.declared.signal.Signal.{Signal as TheSignal}
use Rattle.erl_control.specs.declared.signal.Item.{Item}
use Rattle.erl_control.specs.declared.signal.Item.TheVariants.{Tick, Signal}
use Rattle.erl_control.specs.Control.{control_in, message_in, HasId, Carries, IsFit}

-- the most bytes of a frame after its length
abbrev pub limit : ℕ
limit = FRAME_LIMIT

abbrev pub SpellsMessage : Option Data → List ℕ → Type 0
SpellsMessage None b = b ≡ []
SpellsMessage (Some t) b = IsSpelling 64 t b

-- the control term of a signal, and its message where it has one, in one of its spellings
pub record IsSignalText (signal : TheSignal) (b : List ℕ) : Type 0 where
  pub payload : Bool
  pub unused : Data
  pub control : List ℕ
  pub message : List ℕ
  pub has_id : HasId signal
  pub spelled : IsSpelling 64 (control_in unused signal payload) control
  pub told : SpellsMessage (message_in signal payload) message
  pub bytes : b ≡ control ++ message

-- the length of what follows it, pass-through, and the signal
pub record IsSignalFrame (signal : TheSignal) (b : List ℕ) : Type 0 where
  pub len : List ℕ
  pub text : List ℕ
  pub is_text : IsSignalText signal text
  pub fit : Carries IsFit signal
  pub number : IsNumber 4 (suc (length text)) len
  pub short : suc (length text) ≤ limit
  pub bytes : b ≡ len ++ 112 ∷ text

abbrev pub IsFramed : Item → List ℕ → Type 0
IsFramed Tick b = b ≡ 0 ∷ 0 ∷ 0 ∷ 0 ∷ []
IsFramed (Signal signal) b = IsSignalFrame signal b
