-- A message of the handshake or a frame, told by the first bytes of an item.
-- (ERTS User's Guide, Distribution Protocol, Distribution Handshake and Protocol between Connected Nodes.)
use Rattle.std.specs.Prelude.{◌≡◌, ◌≢◌, ℕ, ◌+◌, ◌*◌, ◌<◌, ◌≤◌, ◌==◌, Bool, true, false, not, List, ◌∷◌, ◌++◌, Option, None, Some}
use Rattle.std.specs.Prelude.{length, nat_lt, slice_index_or, if◌then◌else◌}
use Rattle.dist_model.specs.Due.{is_handshake}
use Rattle.dist_model.specs.Items.{Handshake, Item}
use Rattle.erl_handshake.specs.Messages.{HasFields, content}
use Rattle.erl_handshake.specs.declared.message.ShakeMsg.{ShakeMsg}
use Rattle.node_frames.specs.Frames.{IsSpelled, bytes_of}

-- the fifth byte of a frame is 112, and that of a message of 2 to 16 bytes is another. The list has the bytes behind the first two
abbrev pub third_tells : List ℕ → Option Bool
third_tells (c ∷ d ∷ fifth ∷ rest) = Some (not (fifth == 112))
third_tells _ = None

-- true: a message. Its length stands before it in two bytes, and is 2 at least. False: a frame. Its length has four bytes, and is
-- 1,048,576 at most, so the first two are 16 at most. None: these bytes are too few to tell
abbrev pub begins_message : List ℕ → Option Bool
begins_message (a ∷ b ∷ rest) =
    if nat_lt 16 (256 * a + b) then Some true
    else if nat_lt 1 (256 * a + b) then third_tells rest
    else Some false
begins_message _ = None

-- ---- the laws

-- of each item that is spelled, whatever follows
abbrev pub BeginningIsTold : Type 0
BeginningIsTold = (item : Item) → IsSpelled item → (rest : List ℕ) → begins_message (bytes_of item ++ rest) ≡ Some (is_handshake item)

-- more bytes tell the same
abbrev pub BeginningStays : Type 0
BeginningStays = (bytes rest : List ℕ) (told : Bool) → begins_message bytes ≡ Some told → begins_message (bytes ++ rest) ≡ Some told

-- fewer than two tell nothing, and where they are 2 to 16 fewer than five
abbrev pub BeginningIsNeeded : Type 0
BeginningIsNeeded = ((bytes : List ℕ) → length bytes < 2 → begins_message bytes ≡ None)
    × ((a b : ℕ) (rest : List ℕ) → 2 ≤ 256 * a + b → 256 * a + b ≤ 16 → length rest < 3 → begins_message (a ∷ b ∷ rest) ≡ None)

-- the fifth byte of a message of 16 bytes or fewer, which has two of length before it
abbrev pub ShortHasNo112 : Type 0
ShortHasNo112 = (message : ShakeMsg) → HasFields message → length (content message) ≤ 16
    → slice_index_or (bytes_of (Handshake message)) 4 0 ≢ 112
