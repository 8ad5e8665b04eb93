-- The outcome of an event, in JSON: the node's answer or refusal, and the effects of the event.
use Rattle.std.specs.Prelude.{◌≡◌, ℕ, List, [], ◌∷◌, Option, None, Some, Result, Ok, Err, codes, map}
use Rattle.conn_core.specs.FaultNumbers.{fault_number}
use Rattle.dist_model.specs.declared.report.Answer.{Answer}
use Rattle.dist_model.specs.declared.report.Answer.TheVariants as answer
use Rattle.dist_model.specs.declared.report.Effect.{Effect}
use Rattle.dist_model.specs.declared.report.Kind.{Kind}
use Rattle.dist_model.specs.declared.report.Report.{Report}
use Rattle.erl_handshake.specs.declared.profile.Profile.{Profile}
use Rattle.erl_names.specs.declared.trunk.TrunkId.{TrunkId}
use Rattle.erl_term.specs.Data as terms
use Rattle.erl_term.specs.ErrorNumbers.{refusal_name, refusal_number}
use Rattle.erl_term.specs.declared.refusal.Refusal.{Refusal}
use Rattle.erl_term.specs.declared.term.Pid.{Pid}
use Rattle.hex.specs.Hex.{encode_upper}
use Rattle.link_core.specs.declared.end.End.{End}
use Rattle.node_frames.specs.Frames.{Framed}
use Rattle.node_frames.specs.Kinds.{kind_in}
use Rattle.script_json.specs.Events.{event_data, joined_data}
use Rattle.script_json.specs.Fields.{AreFields}
use Rattle.script_json.specs.Texts.{connection, connection_if, monitor, payload, process}
use Rattle.script_texts.specs.Texts.{end_text}
use Rattle.script_texts.specs.Words.{fault_name, kind_name, swept_name}
use Rattle.serde_json.specs.Data.{Data, array, boolean, member, no_items, no_members, null, number, object, string, unsigned}
use Rattle.serde_json.specs.View.{items_of}
use Rattle.serde_json.specs.Written.{compact_text}
use Rattle.node_core.specs.declared.node_event.NodeEvent.{NodeEvent}

abbrev pub kind_data : Option Kind → Data
kind_data None = null
kind_data (Some kind) = string (kind_name kind)

-- ---- answers

abbrev pub message_data : Option terms.Data → Data
message_data None = null
message_data (Some message) = payload message

abbrev pub holder_data : Option Pid → Data
holder_data None = null
holder_data (Some p) = process p

abbrev pub link_data : Pid × End → Data
link_data link = object (member (codes "end") (string (end_text link.1)) (member (codes "partner") (process link.0) no_members))

abbrev pub answer_data : Answer → Data
answer_data answer.Done = object (member (codes "kind") (string (codes "done")) no_members)
answer_data (answer.Pid p) = object (member (codes "kind") (string (codes "pid")) (member (codes "process") (process p) no_members))
answer_data (answer.Reference r) =
    object (member (codes "kind") (string (codes "reference")) (member (codes "reference") (monitor r) no_members))
answer_data (answer.Message message) =
    object (member (codes "kind") (string (codes "message")) (member (codes "message") (message_data message) no_members))
answer_data (answer.Links links) =
    object (member (codes "kind") (string (codes "links")) (member (codes "links") (array (items_of (map link_data links))) no_members))
answer_data (answer.Alive living) =
    object (member (codes "alive") (boolean living) (member (codes "kind") (string (codes "alive")) no_members))
answer_data (answer.Holder holder) =
    object (member (codes "holder") (holder_data holder) (member (codes "kind") (string (codes "holder")) no_members))
answer_data (answer.Trunk trunk) =
    object (member (codes "kind") (string (codes "trunk")) (member (codes "trunk") (connection trunk) no_members))
answer_data (answer.Took kind) =
    object (member (codes "item") (string (kind_name kind)) (member (codes "kind") (string (codes "took")) no_members))
answer_data (answer.Broken fault) =
    object (member (codes "kind") (string (codes "broken")) (member (codes "name") (string (fault_name fault))
    (member (codes "number") (number (unsigned (fault_number fault))) no_members)))
answer_data (answer.Swept swept) =
    object (member (codes "kind") (string (codes "swept")) (member (codes "record") (string (swept_name swept)) no_members))
answer_data answer.Stopped = object (member (codes "kind") (string (codes "stopped")) no_members)
answer_data (answer.Started creation) =
    object (member (codes "creation") (number (unsigned creation)) (member (codes "kind") (string (codes "started")) no_members))

abbrev pub refusal_data : Refusal → Data
refusal_data refusal =
    object (member (codes "kind") (string (codes "refused")) (member (codes "name") (string (refusal_name refusal))
    (member (codes "number") (number (unsigned (refusal_number refusal))) no_members)))

-- ---- effects

-- the item that is sent, with the fields that are read from its bytes
abbrev pub sent_data : Option TrunkId → (peer : List ℕ) → (bytes : List ℕ) → (fields : Data) → Data
sent_data trunk peer bytes fields =
    object (member (codes "fields") fields (member (codes "hex") (string (encode_upper bytes))
    (member (codes "item") (kind_data (kind_in bytes)) (member (codes "kind") (string (codes "sent"))
    (member (codes "peer") (string peer) (member (codes "trunk") (connection_if trunk) no_members))))))

abbrev pub IsEffectData : Effect Framed → Data → Type 0
IsEffectData (Effect.Put to message) effect =
    effect ≡ object (member (codes "kind") (string (codes "put")) (member (codes "message") (payload message)
    (member (codes "to") (process to) no_members)))
IsEffectData (Effect.Ended p reason) effect =
    effect ≡ object (member (codes "kind") (string (codes "ended")) (member (codes "process") (process p)
    (member (codes "reason") (payload reason) no_members)))
IsEffectData (Effect.LinkExit p partner reason) effect =
    effect ≡ object (member (codes "kind") (string (codes "link_exit")) (member (codes "partner") (process partner)
    (member (codes "process") (process p) (member (codes "reason") (payload reason) no_members))))
IsEffectData (Effect.Sent trunk peer frame) effect =
    (fields : Data) × AreFields frame.bytes fields × (effect ≡ sent_data trunk peer frame.bytes fields)

-- the data of each, in their order
abbrev pub AreEffects : List (Effect Framed) → List Data → Type 0
AreEffects [] [] = Unit {0}
AreEffects (effect ∷ effects) (told ∷ all) = IsEffectData effect told × AreEffects effects all
AreEffects [] (told ∷ all) = ⊥
AreEffects (effect ∷ effects) [] = ⊥

-- ---- the whole

abbrev pub came_data : Result (Report Framed) Refusal → Data
came_data (Ok report) = answer_data report.answer
came_data (Err refusal) = refusal_data refusal

abbrev pub brought : Result (Report Framed) Refusal → List (Effect Framed)
brought (Ok report) = report.effects.items
brought (Err refusal) = []

-- the number is that of the script's line, from 1
abbrev pub parts_data : (node : List ℕ) → (line : ℕ) → (event answer effects : Data) → Data
parts_data node line event answer effects =
    object (member (codes "answer") answer (member (codes "effects") effects (member (codes "event") event
    (member (codes "line") (number (unsigned line)) (member (codes "node") (string node) no_members)))))

abbrev pub IsLineData : (node : List ℕ) → (line : ℕ) → (event : Data) → Result (Report Framed) Refusal → Data → Type 0
IsLineData node line event came told =
    (effects : List Data) × AreEffects (brought came) effects
    × (told ≡ parts_data node line event (came_data came) (array (items_of effects)))

-- the text of a line, without its line break
unfoldable pub IsLineText : (node : List ℕ) → (line : ℕ) → NodeEvent → Result (Report Framed) Refusal → List ℕ → Type 0
IsLineText node line event came text =
    (told : Data) × IsLineData node line (event_data event) came told × (text ≡ compact_text told)

-- the same of a node that comes into the world, in its first incarnation
abbrev pub node_data : (node : List ℕ) → (line : ℕ) → (cookie : List ℕ) → Profile → Data
node_data node line cookie profile = parts_data node line (joined_data cookie profile) (answer_data (answer.Started 1)) (array no_items)

unfoldable pub node_text : (node : List ℕ) → (line : ℕ) → (cookie : List ℕ) → Profile → List ℕ
node_text node line cookie profile = compact_text (node_data node line cookie profile)
