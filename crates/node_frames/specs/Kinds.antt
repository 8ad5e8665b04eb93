-- What an item is, told by the bytes in which it is sent: a message of the handshake by its letter, a frame by the tag of its
-- control term.
-- (ERTS User's Guide, Distribution Protocol, Distribution Handshake and Protocol between Connected Nodes.)
use Rattle.std.specs.Prelude.{ℕ, ◌+◌, ◌*◌, Bool, true, false, ◌==◌, ◌||◌, List, Option, None, Some, length, slice_index_or, if◌then◌else◌}
use Rattle.dist_model.specs.declared.report.Kind.{Kind}
use Rattle.dist_model.specs.declared.report.Kind.TheVariants as kind
use Rattle.node_frames.specs.Beginnings.{begins_message}

abbrev pub byte_at : (bytes : List ℕ) → (place : ℕ) → ℕ
byte_at bytes place = slice_index_or bytes place 0

-- of two bytes
abbrev pub number_at : (bytes : List ℕ) → (place : ℕ) → ℕ
number_at bytes place = 256 * byte_at bytes place + byte_at bytes (place + 1)

-- send_name and send_challenge have one letter: this one has the length of the name behind the flags and two numbers
abbrev pub named_kind : List ℕ → Kind
named_kind bytes = if number_at bytes 19 + 21 == length bytes then kind.Challenge else kind.SendName

-- s, r, a and N
abbrev pub message_kind : (letter : ℕ) → List ℕ → Option Kind
message_kind letter bytes =
    if letter == 115 then Some kind.Status
    else if letter == 114 then Some kind.ChallengeReply
    else if letter == 97 then Some kind.ChallengeAck
    else if letter == 78 then Some (named_kind bytes)
    else None

-- an exit and the exit of a monitor have two tags: by the second the reason follows the control term
abbrev pub signal_kind : (tag : ℕ) → Option Kind
signal_kind tag =
    if tag == 1 then Some kind.Link
    else if tag == 2 then Some kind.Send
    else if tag == 6 then Some kind.RegSend
    else if tag == 3 || tag == 24 then Some kind.Exit
    else if tag == 8 || tag == 26 then Some kind.Exit2
    else if tag == 19 then Some kind.Monitor
    else if tag == 20 then Some kind.Demonitor
    else if tag == 21 || tag == 28 then Some kind.MonitorExit
    else if tag == 35 then Some kind.Unlink
    else if tag == 36 then Some kind.UnlinkAck
    else None

-- a tick is a length of 0; the tag stands behind the length, 112, the version and the heads of the tuple and of the tag
abbrev pub frame_kind : List ℕ → Option Kind
frame_kind bytes = if length bytes == 4 then Some kind.Tick else signal_kind (byte_at bytes 9)

-- the first bytes tell if it is a message
abbrev pub kind_told : Option Bool → List ℕ → Option Kind
kind_told None bytes = None
kind_told (Some true) bytes = message_kind (byte_at bytes 2) bytes
kind_told (Some false) bytes = frame_kind bytes

abbrev pub kind_in : List ℕ → Option Kind
kind_in bytes = kind_told (begins_message bytes) bytes
