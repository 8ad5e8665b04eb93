-- The item of some bytes, as its receiver reads it.
-- (ERTS User's Guide, Distribution Protocol, Distribution Handshake and Protocol between Connected Nodes.)
use Rattle.std.specs.Prelude.{◌≡◌, ℕ, List, Option, None, Some, true, false}
use Rattle.dist_model.specs.Items.{Handshake, Item, Signalled, Tick}
use Rattle.dist_model.specs.declared.report.Kind.{Kind}
use Rattle.dist_model.specs.declared.report.Kind.TheVariants as kind
use Rattle.erl_control.specs.Frame.{IsFramed}
use Rattle.erl_control.specs.declared.signal.Item.{Item as FrameItem}
use Rattle.erl_control.specs.declared.signal.Item.TheVariants as frame
use Rattle.erl_handshake.specs.Messages.{IsShake}
use Rattle.erl_handshake.specs.declared.message.Role.{Role}
use Rattle.item_texts.specs.declared.reading.ReadItem.{ReadItem}
use Rattle.item_texts.specs.declared.reading.ReadItem.TheVariants as read
use Rattle.node_frames.specs.Beginnings.{begins_message}
use Rattle.node_frames.specs.Kinds.{kind_in}

-- how the reader of its bytes has it. It doesn't keep where a reason stands
abbrev pub read_of : Item → ReadItem
read_of (Signalled signal payload) = read.Signal signal
read_of (Handshake message) = read.Message message
read_of Tick = read.Tick

abbrev pub of_frame : FrameItem → ReadItem
of_frame (frame.Signal signal) = read.Signal signal
of_frame frame.Tick = read.Tick

-- the role that reads a message: the dialer a challenge, and the acceptor a send_name. Either reads the others
abbrev pub reader_of : Option Kind → Role
reader_of (Some kind.Challenge) = Role.Dialer
reader_of _ = Role.Acceptor

abbrev pub reader_in : List ℕ → Role
reader_in bytes = reader_of (kind_in bytes)

-- the item takes all of the bytes, of which the first tell a message from a frame
abbrev pub AreBytesOf : ReadItem → List ℕ → Type 0
AreBytesOf (read.Signal signal) bytes = (begins_message bytes ≡ Some false) × IsFramed (frame.Signal signal) bytes
AreBytesOf (read.Message message) bytes = (begins_message bytes ≡ Some true) × IsShake (reader_in bytes) message bytes
AreBytesOf read.Tick bytes = (begins_message bytes ≡ Some false) × IsFramed frame.Tick bytes

-- the item of the bytes, or that they are those of none
abbrev pub IsRead : List ℕ → Option ReadItem → Type 0
IsRead bytes (Some item) = AreBytesOf item bytes
IsRead bytes None = (item : ReadItem) → ¬ AreBytesOf item bytes
