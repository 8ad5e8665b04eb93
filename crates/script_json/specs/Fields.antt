-- The fields of an item that is sent, in JSON. Flags and digests are in hex.
-- (ERTS User's Guide, Distribution Protocol, Distribution Handshake and Protocol between Connected Nodes.)
use Rattle.std.specs.Prelude.{◌≡◌, ℕ, List, Option, None, Some, true, codes}
use Rattle.std.specs.Fmt.{digits}
use Rattle.erl_control.specs.declared.signal.Signal.{Signal}
use Rattle.erl_handshake.specs.Messages.{status_text}
use Rattle.erl_handshake.specs.declared.message.ShakeMsg.{ShakeMsg}
use Rattle.hex.specs.Hex.{encode_upper}
use Rattle.item_texts.specs.Reading.{IsRead}
use Rattle.item_texts.specs.Words.{message_name, operation_name}
use Rattle.item_texts.specs.declared.reading.ReadItem.{ReadItem}
use Rattle.item_texts.specs.declared.reading.ReadItem.TheVariants as read
use Rattle.script_json.specs.Texts.{atom, monitor, payload, process}
use Rattle.serde_json.specs.Data.{Data, Members, member, no_members, null, number, object, string, unsigned}

-- of a signal about a monitor, with the name of its operation
abbrev pub monitor_members : (operation : Data) → Signal → Members
monitor_members operation (Signal.Monitor from to r) =
    member (codes "from") (process from) (member (codes "operation") operation
    (member (codes "reference") (monitor r) (member (codes "to") (process to) no_members)))
monitor_members operation (Signal.MonitorName from name r) =
    member (codes "from") (process from) (member (codes "name") (atom name)
    (member (codes "operation") operation (member (codes "reference") (monitor r) no_members)))
monitor_members operation (Signal.Demonitor from to r) =
    member (codes "from") (process from) (member (codes "operation") operation
    (member (codes "reference") (monitor r) (member (codes "to") (process to) no_members)))
monitor_members operation (Signal.DemonitorName from name r) =
    member (codes "from") (process from) (member (codes "name") (atom name)
    (member (codes "operation") operation (member (codes "reference") (monitor r) no_members)))
monitor_members operation (Signal.MonitorExit from to r reason) =
    member (codes "from") (process from) (member (codes "operation") operation (member (codes "reason") (payload reason)
    (member (codes "reference") (monitor r) (member (codes "to") (process to) no_members))))
monitor_members operation (Signal.MonitorNameExit name to r reason) =
    member (codes "name") (atom name) (member (codes "operation") operation (member (codes "reason") (payload reason)
    (member (codes "reference") (monitor r) (member (codes "to") (process to) no_members))))
monitor_members operation _ = no_members

abbrev pub signal_members : (operation : Data) → Signal → Members
signal_members operation (Signal.Link from to) =
    member (codes "from") (process from) (member (codes "operation") operation (member (codes "to") (process to) no_members))
signal_members operation (Signal.Send to message) =
    member (codes "message") (payload message) (member (codes "operation") operation (member (codes "to") (process to) no_members))
signal_members operation (Signal.RegSend from name message) =
    member (codes "from") (process from) (member (codes "message") (payload message)
    (member (codes "name") (atom name) (member (codes "operation") operation no_members)))
signal_members operation (Signal.Exit from to reason) =
    member (codes "from") (process from) (member (codes "operation") operation
    (member (codes "reason") (payload reason) (member (codes "to") (process to) no_members)))
signal_members operation (Signal.Exit2 from to reason) =
    member (codes "from") (process from) (member (codes "operation") operation
    (member (codes "reason") (payload reason) (member (codes "to") (process to) no_members)))
signal_members operation (Signal.UnlinkId id from to) =
    member (codes "from") (process from) (member (codes "id") (number (unsigned id))
    (member (codes "operation") operation (member (codes "to") (process to) no_members)))
signal_members operation (Signal.UnlinkIdAck id from to) =
    member (codes "from") (process from) (member (codes "id") (number (unsigned id))
    (member (codes "operation") operation (member (codes "to") (process to) no_members)))
signal_members operation signal = monitor_members operation signal

abbrev pub signal_data : Signal → Data
signal_data signal = object (signal_members (string (operation_name signal)) signal)

abbrev pub message_members : (operation : Data) → ShakeMsg → Members
message_members operation (ShakeMsg.SendName flags creation name) =
    member (codes "creation") (number (unsigned creation)) (member (codes "flags") (string (digits 16 true flags))
    (member (codes "name") (string name) (member (codes "operation") operation no_members)))
message_members operation (ShakeMsg.Status status) =
    member (codes "operation") operation (member (codes "status") (string (status_text status)) no_members)
message_members operation (ShakeMsg.Challenge flags challenge creation name) =
    member (codes "challenge") (number (unsigned challenge)) (member (codes "creation") (number (unsigned creation))
    (member (codes "flags") (string (digits 16 true flags)) (member (codes "name") (string name)
    (member (codes "operation") operation no_members))))
message_members operation (ShakeMsg.ChallengeReply challenge digest) =
    member (codes "challenge") (number (unsigned challenge)) (member (codes "digest") (string (encode_upper digest))
    (member (codes "operation") operation no_members))
message_members operation (ShakeMsg.ChallengeAck digest) =
    member (codes "digest") (string (encode_upper digest)) (member (codes "operation") operation no_members)

abbrev pub handshake_data : ShakeMsg → Data
handshake_data message = object (message_members (string (message_name message)) message)

abbrev pub fields_data : ReadItem → Data
fields_data (read.Signal signal) = signal_data signal
fields_data (read.Message message) = handshake_data message
fields_data read.Tick = object (member (codes "operation") (string (codes "tick")) no_members)

-- null if the bytes are no item
abbrev pub fields_if : Option ReadItem → Data
fields_if None = null
fields_if (Some item) = fields_data item

abbrev pub AreFields : (bytes : List ℕ) → Data → Type 0
AreFields bytes fields = (item : Option ReadItem) × IsRead bytes item × (fields ≡ fields_if item)
