-- The words for an item in flight: the name of the operation or of the message, and its fields in their order.
-- (ERTS User's Guide, Distribution Protocol, Distribution Handshake and Protocol between Connected Nodes.)
use Rattle.std.specs.Prelude.{ℕ, true, List, [], ◌++◌, codes}
use Rattle.std.specs.Fmt.{decimal, digits}
use Rattle.dist_model.specs.Items.{Item}
use Rattle.dist_model.specs.Names.{Name}
use Rattle.erl_control.specs.declared.signal.Signal.{Signal}
use Rattle.erl_handshake.specs.Messages.{status_text}
use Rattle.erl_handshake.specs.declared.message.ShakeMsg.{ShakeMsg}
use Rattle.erl_term.specs.Data.{Data}
use Rattle.erl_term.specs.declared.term.Pid.{Pid}
use Rattle.erl_term.specs.declared.term.Reference.{Reference}
use Rattle.hex.specs.Hex.{encode_upper}
use Rattle.item_texts.specs.Reading.{read_of}
use Rattle.item_texts.specs.declared.reading.ReadItem.{ReadItem}
use Rattle.item_texts.specs.declared.reading.ReadItem.TheVariants as read
use Rattle.node_frames.specs.Frames.{bytes_of}
use Rattle.script_terms.specs.Printing.{atom_text, pid_text, reference_text, term_text}

-- one field more
abbrev pub field : List ℕ → List ℕ
field text = codes " " ++ text

abbrev pub pids : (from to : Pid) → List ℕ
pids from to = field (pid_text from) ++ field (pid_text to)

-- a process and a registered name, and the other way round
abbrev pub process_and_name : Pid → (name : List ℕ) → List ℕ
process_and_name from name = field (pid_text from) ++ field (atom_text name)

abbrev pub name_and_process : (name : List ℕ) → Pid → List ℕ
name_and_process name to = field (atom_text name) ++ field (pid_text to)

-- the monitor that has come to its end, and the reason
abbrev pub ended : Reference → Data → List ℕ
ended r reason = field (reference_text r) ++ field (term_text reason)

-- the name of the operation, the same where the reason follows the control term
abbrev pub operation_name : Signal → List ℕ
operation_name (Signal.Link from to) = codes "LINK"
operation_name (Signal.Send to message) = codes "SEND"
operation_name (Signal.RegSend from name message) = codes "REG_SEND"
operation_name (Signal.Exit from to reason) = codes "EXIT"
operation_name (Signal.Exit2 from to reason) = codes "EXIT2"
operation_name (Signal.Monitor from to r) = codes "MONITOR_P"
operation_name (Signal.MonitorName from name r) = codes "MONITOR_P"
operation_name (Signal.Demonitor from to r) = codes "DEMONITOR_P"
operation_name (Signal.DemonitorName from name r) = codes "DEMONITOR_P"
operation_name (Signal.MonitorExit from to r reason) = codes "MONITOR_P_EXIT"
operation_name (Signal.MonitorNameExit name to r reason) = codes "MONITOR_P_EXIT"
operation_name (Signal.UnlinkId id from to) = codes "UNLINK_ID"
operation_name (Signal.UnlinkIdAck id from to) = codes "UNLINK_ID_ACK"

-- its fields that aren't unused. Those of a signal about a monitor stand apart
abbrev pub monitor_fields : Signal → List ℕ
monitor_fields (Signal.Monitor from to r) = pids from to ++ field (reference_text r)
monitor_fields (Signal.MonitorName from name r) = process_and_name from name ++ field (reference_text r)
monitor_fields (Signal.Demonitor from to r) = pids from to ++ field (reference_text r)
monitor_fields (Signal.DemonitorName from name r) = process_and_name from name ++ field (reference_text r)
monitor_fields (Signal.MonitorExit from to r reason) = pids from to ++ ended r reason
monitor_fields (Signal.MonitorNameExit name to r reason) = name_and_process name to ++ ended r reason
monitor_fields _ = []

abbrev pub fields : Signal → List ℕ
fields (Signal.Link from to) = pids from to
fields (Signal.Send to message) = field (pid_text to) ++ field (term_text message)
fields (Signal.RegSend from name message) = process_and_name from name ++ field (term_text message)
fields (Signal.Exit from to reason) = pids from to ++ field (term_text reason)
fields (Signal.Exit2 from to reason) = pids from to ++ field (term_text reason)
fields (Signal.UnlinkId id from to) = field (decimal id) ++ pids from to
fields (Signal.UnlinkIdAck id from to) = field (decimal id) ++ pids from to
fields signal = monitor_fields signal

abbrev pub signal_text : Signal → List ℕ
signal_text signal = operation_name signal ++ fields signal

abbrev pub message_name : ShakeMsg → List ℕ
message_name (ShakeMsg.SendName flags creation name) = codes "send_name"
message_name (ShakeMsg.Status status) = codes "status"
message_name (ShakeMsg.Challenge flags challenge creation name) = codes "challenge"
message_name (ShakeMsg.ChallengeReply challenge digest) = codes "challenge_reply"
message_name (ShakeMsg.ChallengeAck digest) = codes "challenge_ack"

-- flags and digests are in hex
abbrev pub message_fields : ShakeMsg → List ℕ
message_fields (ShakeMsg.SendName flags creation name) =
    codes " " ++ digits 16 true flags ++ codes " " ++ decimal creation ++ codes " " ++ name
message_fields (ShakeMsg.Status status) = field (status_text status)
message_fields (ShakeMsg.Challenge flags challenge creation name) =
    codes " " ++ digits 16 true flags ++ codes " " ++ decimal challenge ++ codes " " ++ decimal creation ++ codes " " ++ name
message_fields (ShakeMsg.ChallengeReply challenge digest) = field (decimal challenge) ++ field (encode_upper digest)
message_fields (ShakeMsg.ChallengeAck digest) = field (encode_upper digest)

abbrev pub message_text : ShakeMsg → List ℕ
message_text message = message_name message ++ message_fields message

abbrev pub read_text : ReadItem → List ℕ
read_text (read.Signal signal) = signal_text signal
read_text (read.Message message) = message_text message
read_text read.Tick = codes "tick"

abbrev pub item_text : Item → List ℕ
item_text item = read_text (read_of item)

-- an item that a node sends to a peer: the names of the two, the bytes in hex, and the words
abbrev pub line_text : (node peer hex words : List ℕ) → List ℕ
line_text node peer hex words = codes "sent " ++ node ++ codes " " ++ peer ++ codes " " ++ hex ++ codes " " ++ words ++ codes "\n"

abbrev pub sent_words : (node peer : Name) → Item → List ℕ
sent_words node peer item = line_text node peer (encode_upper (bytes_of item)) (item_text item)
