-- A frame that is written into a buffer.
use Rattle.std.specs.Prelude.{◌≡◌, ℕ, ◌<◌, ◌≤◌, false, List, length, take, drop}
use Rattle.erl_term.specs.Text.{IsAtomText}
use Rattle.erl_control.specs.declared.signal.Signal.{Signal as TheSignal}
use Rattle.erl_control.specs.declared.signal.Item.TheVariants.{Signal}
use Rattle.erl_control.specs.Control.{HasId}
use Rattle.erl_control.specs.Frame.{IsFramed}
use Rattle.erl_control.specs.Canonical.{canonical_frame}

-- both texts are atoms
abbrev pub AreAtoms : List ℕ → List ℕ → Type 0
AreAtoms x y = IsAtomText x × IsAtomText y

-- how the call of one signal ends: its result, the size that it tells, and the buffer
pub record IsPut (from_node to_node : List ℕ) (signal : TheSignal) (old : List ℕ) (result size : ℕ) (new : List ℕ) : Type 0 where
  -- a node's name is no atom
  pub bad_node : ¬ AreAtoms from_node to_node → (result ≡ 2) × (size ≡ 0) × (new ≡ old)
  -- the Id is 0
  pub bad_id : AreAtoms from_node to_node → ¬ HasId signal → (result ≡ 7) × (size ≡ 0) × (new ≡ old)
  -- else the size is that of the frame, also where there is no room for it
  pub size_is : AreAtoms from_node to_node → HasId signal → size ≡ length (canonical_frame signal false)
  pub no_room : AreAtoms from_node to_node → HasId signal → length old < size → (result ≡ 100) × (new ≡ old)
  pub written : AreAtoms from_node to_node → HasId signal → size ≤ length old
      → (result ≡ 0) × (take size new ≡ canonical_frame signal false) × (drop size new ≡ drop size old)
  -- the bytes are a frame of the signal
  pub framed : result ≡ 0 → IsFramed (Signal signal) (canonical_frame signal false)
