-- The reader of the next bytes of a connection, or of any bytes.
-- (ERTS User's Guide, External Term Format; Distribution Protocol, Distribution Handshake.)
use Rattle.std.specs.Prelude.{List, ◌∷◌, ℕ, Option, None, Some, Bool, true, false, ◌==◌, if◌then◌else◌}
use Rattle.dist_model.specs.declared.report.Kind.TheVariants as kind
use Rattle.dist_model.specs.declared.report.Kind.{Kind}
use Rattle.erl_handshake.specs.declared.message.Role.{Role}
use Rattle.erl_handshake.specs.declared.message.ShakeMsg.{ShakeMsg}
use Rattle.fault_places.specs.declared.places.Reader.{Reader}
use Rattle.item_decoder.specs.declared.answers.Answer.{Answer}
use Rattle.item_decoder.specs.declared.answers.Found.{Found}
use Rattle.item_decoder.specs.declared.stages.Form.{Form}
use Rattle.item_decoder.specs.declared.stages.Next.{Next}
use Rattle.item_decoder.specs.declared.stages.Stage.{Stage}
use Rattle.item_texts.specs.declared.reading.ReadItem.{ReadItem}
use Rattle.node_frames.specs.Beginnings.{begins_message}
use Rattle.node_frames.specs.Kinds.{kind_in}

-- the node that dials reads a challenge; the dialed node reads each other message that it is sent
abbrev pub reader_by_kind : Option Kind → Reader
reader_by_kind (Some kind.Challenge) = Reader.Message Role.Dialer
reader_by_kind kind = Reader.Message Role.Acceptor

abbrev pub message_reader : List ℕ → Reader
message_reader bytes = reader_by_kind (kind_in bytes)

-- the first bytes tell a message of the handshake from a frame
abbrev pub message_or_frame : Option Bool → List ℕ → Reader
message_or_frame (Some true) bytes = message_reader bytes
message_or_frame told bytes = Reader.Frame

-- 131 begins a term: no frame has a length that begins so
abbrev pub any_reader : List ℕ → Reader
any_reader (byte ∷ bytes) = if byte == 131 then Reader.Term else message_or_frame (begins_message (byte ∷ bytes)) (byte ∷ bytes)
any_reader bytes = message_or_frame (begins_message bytes) bytes

-- the first bytes of one direction of a connection: of a handshake, or behind it
abbrev pub opening_reader : Option Bool → Reader
opening_reader (Some true) = Reader.Message Role.Acceptor
opening_reader (Some false) = Reader.Frame
opening_reader None = Reader.Message Role.Acceptor

-- one direction of a connection: who sends, and if the handshake is over
abbrev pub stream_reader : Stage → List ℕ → Reader
stream_reader Stage.Opening bytes = opening_reader (begins_message bytes)
stream_reader Stage.FromDialer bytes = Reader.Message Role.Acceptor
stream_reader Stage.FromAcceptor bytes = Reader.Message Role.Dialer
stream_reader Stage.Connected bytes = Reader.Frame

abbrev pub reader_in : Form → Stage → List ℕ → Reader
reader_in Form.Terms stage bytes = Reader.Term
reader_in Form.Frames stage bytes = Reader.Frame
reader_in Form.ToDialer stage bytes = Reader.Message Role.Dialer
reader_in Form.ToAcceptor stage bytes = Reader.Message Role.Acceptor
reader_in Form.Stream stage bytes = stream_reader stage bytes
reader_in Form.Any stage bytes = any_reader bytes

abbrev pub reader_of : Next → List ℕ → Reader
reader_of next bytes = reader_in next.form next.stage bytes

-- a frame is sent when the handshake is over. The first message tells the sender; the challenge_reply is the last message of the node that dials, and the challenge_ack that of the other
abbrev pub after_message : Stage → ShakeMsg → Stage
after_message stage (ShakeMsg.SendName flags creation name) = Stage.FromDialer
after_message Stage.Opening (ShakeMsg.Status status) = Stage.FromAcceptor
after_message stage (ShakeMsg.ChallengeReply challenge digest) = Stage.Connected
after_message stage (ShakeMsg.ChallengeAck digest) = Stage.Connected
after_message stage message = stage

abbrev pub after : Next → Answer → Next
after next (Answer.Found (Found.Item (ReadItem.Message message)) n) = record { form = next.form; stage = after_message next.stage message }
after next (Answer.Found (Found.Item item) n) = record { form = next.form; stage = Stage.Connected }
after next answer = next
