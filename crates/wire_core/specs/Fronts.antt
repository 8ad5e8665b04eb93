-- How many bytes an item has, told by the first of them.
-- (ERTS User's Guide, Distribution Protocol, Distribution Handshake and Protocol between Connected Nodes.)
use Rattle.std.specs.Prelude.{ℕ, ◌+◌, ◌*◌, Bool, true, false, List, ◌∷◌, Option, None, Some}
use Rattle.node_frames.specs.Beginnings.{begins_message}

-- a message of the handshake has a length of two bytes before it
abbrev pub message_length : List ℕ → Option ℕ
message_length (a ∷ b ∷ rest) = Some (256 * a + b + 2)
message_length _ = None

-- a frame has a length of four
abbrev pub frame_length : List ℕ → Option ℕ
frame_length (a ∷ b ∷ c ∷ d ∷ rest) = Some (65536 * (256 * a + b) + (256 * c + d) + 4)
frame_length _ = None

-- the first bytes tell if it is a message
abbrev pub length_told : Option Bool → List ℕ → Option ℕ
length_told None bytes = None
length_told (Some true) bytes = message_length bytes
length_told (Some false) bytes = frame_length bytes

abbrev pub front_length : List ℕ → Option ℕ
front_length bytes = length_told (begins_message bytes) bytes
