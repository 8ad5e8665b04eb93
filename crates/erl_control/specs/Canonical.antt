-- The one frame that is written of each signal in each of its spellings.
use Rattle.std.specs.Prelude.{ℕ, suc, List, [], ◌∷◌, ◌++◌, length, Bool, Option, Some, None}
use Rattle.byteorder.specs.Endian.{big_bytes}
use Rattle.erl_term.specs.Data.{Data, atom}
use Rattle.erl_term.specs.Canonical.{canonical}
use Rattle.erl_control.specs.declared.signal.Signal.{Signal}
use Rattle.erl_control.specs.Control.{control_in, message_in}

-- each term in its canonical spelling, and the atom '' in the field that nobody uses
abbrev pub canonical_control : Signal → Bool → List ℕ
canonical_control signal payload = canonical (control_in (atom []) signal payload)

abbrev pub canonical_message : Option Data → List ℕ
canonical_message None = []
canonical_message (Some t) = canonical t

abbrev pub canonical_text : Signal → Bool → List ℕ
canonical_text signal payload = canonical_control signal payload ++ canonical_message (message_in signal payload)

abbrev pub framed_text : List ℕ → List ℕ
framed_text text = big_bytes 4 (suc (length text)) ++ 112 ∷ text

abbrev pub canonical_frame : Signal → Bool → List ℕ
canonical_frame signal payload = framed_text (canonical_text signal payload)
