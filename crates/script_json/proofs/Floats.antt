-- No line has a number with a fraction: so its text is told exactly.
use Rattle.std.proofs.Common.{◌≡◌, ℕ, false, ◌||◌, List, [], ◌∷◌, Option, None, Some, Result, Ok, Err, map, refl, ap, ap₂, ◌∙◌}
use Rattle.dist_model.specs.declared.command.Command.{Command}
use Rattle.dist_model.specs.declared.command.Command.TheVariants as command
use Rattle.dist_model.specs.declared.report.Answer.{Answer}
use Rattle.dist_model.specs.declared.report.Answer.TheVariants as answer
use Rattle.dist_model.specs.declared.report.Effect.{Effect}
use Rattle.dist_model.specs.declared.report.Kind.{Kind}
use Rattle.dist_model.specs.declared.report.Report.{Report}
use Rattle.erl_control.specs.declared.signal.Signal.{Signal}
use Rattle.erl_handshake.specs.declared.message.ShakeMsg.{ShakeMsg}
use Rattle.erl_handshake.specs.declared.profile.Profile.{Profile}
use Rattle.erl_names.specs.declared.trunk.TrunkId.{TrunkId}
use Rattle.erl_term.specs.Data as terms
use Rattle.erl_term.specs.declared.refusal.Refusal.{Refusal}
use Rattle.erl_term.specs.declared.term.Pid.{Pid}
use Rattle.item_texts.specs.declared.reading.ReadItem.{ReadItem}
use Rattle.item_texts.specs.declared.reading.ReadItem.TheVariants as read
use Rattle.link_core.specs.declared.end.End.{End}
use Rattle.node_frames.specs.Frames.{Framed}
use Rattle.script_json.specs.Events.{command_data, event_data}
use Rattle.node_frames.specs.Kinds.{kind_in}
use Rattle.script_json.specs.Fields.{fields_if, handshake_data, signal_data}
use Rattle.script_json.specs.Reports.{AreEffects, IsEffectData, IsLineData, answer_data, brought, came_data, holder_data, kind_data, link_data}
use Rattle.script_json.specs.Reports.{message_data, node_data, sent_data}
use Rattle.script_json.specs.Texts.{connection_if}
use Rattle.serde_json.specs.Data.{Data}
use Rattle.serde_json.specs.View.{items_of}
use Rattle.serde_json.specs.Written.{has_float, items_have_float}
use Rattle.node_core.specs.declared.node_event.NodeEvent.{NodeEvent}
use Rattle.node_core.specs.declared.node_event.NodeEvent.TheVariants as event

in_kind : (kind : Option Kind) → has_float (kind_data kind) ≡ false
in_kind None = refl
in_kind (Some kind) = refl

in_trunk : (trunk : Option TrunkId) → has_float (connection_if trunk) ≡ false
in_trunk None = refl
in_trunk (Some trunk) = refl

in_message : (message : Option terms.Data) → has_float (message_data message) ≡ false
in_message None = refl
in_message (Some message) = refl

in_links : (links : List (Pid × End)) → items_have_float (items_of (map link_data links)) ≡ false
in_links [] = refl
in_links (link ∷ links) = in_links links

in_holder : (holder : Option Pid) → has_float (holder_data holder) ≡ false
in_holder None = refl
in_holder (Some holder) = refl

in_answer : (a : Answer) → has_float (answer_data a) ≡ false
in_answer (answer.Message message) = ap (λ b. b || false) (in_message message)
in_answer (answer.Links links) = ap (λ b. b || false) (in_links links)
in_answer (answer.Holder holder) = ap (λ b. b || false) (in_holder holder)
in_answer _ = refl

in_signal : (signal : Signal) → has_float (signal_data signal) ≡ false
in_signal (Signal.Link from to) = refl
in_signal _ = refl

in_handshake : (message : ShakeMsg) → has_float (handshake_data message) ≡ false
in_handshake (ShakeMsg.Status status) = refl
in_handshake _ = refl

in_fields : (item : Option ReadItem) → has_float (fields_if item) ≡ false
in_fields None = refl
in_fields (Some (read.Signal signal)) = in_signal signal
in_fields (Some (read.Message message)) = in_handshake message
in_fields (Some read.Tick) = refl

in_sent : (trunk : Option TrunkId) (peer bytes : List ℕ) (fields : Data) → has_float fields ≡ false
    → has_float (sent_data trunk peer bytes fields) ≡ false
in_sent trunk peer bytes fields e = rw (e, in_kind (kind_in bytes), in_trunk trunk) refl

in_effect : (effect : Effect Framed) (told : Data) → IsEffectData effect told → has_float told ≡ false
in_effect (Effect.Sent trunk peer frame) told h =
    ap has_float h.2 ∙ in_sent trunk peer frame.bytes h.0 (ap has_float h.1.2 ∙ in_fields h.1.0)
in_effect _ told h = ap has_float h

in_effects : (effects : List (Effect Framed)) (all : List Data) → AreEffects effects all → items_have_float (items_of all) ≡ false
in_effects [] [] h = refl
in_effects [] (told ∷ all) h = absurd h
in_effects (effect ∷ effects) [] h = absurd h
in_effects (effect ∷ effects) (told ∷ all) h = ap₂ (λ b c. b || c) (in_effect effect told h.0) (in_effects effects all h.1)

in_came : (came : Result (Report Framed) Refusal) → has_float (came_data came) ≡ false
in_came (Ok report) = in_answer report.answer
in_came (Err refusal) = refl

in_command : (c : Command) → has_float (command_data c) ≡ false
in_command command.Spawn = refl
in_command _ = refl

in_event : (e : NodeEvent) → has_float (event_data e) ≡ false
in_event (event.Call c) = in_command c
in_event _ = refl

pub in_line : (node : List ℕ) (line : ℕ) (e : NodeEvent) (came : Result (Report Framed) Refusal) (told : Data)
    → IsLineData node line (event_data e) came told → has_float told ≡ false
in_line node line e came told h = ap has_float h.2 ∙ rw (in_came came, in_effects (brought came) h.0 h.1, in_event e) refl

pub in_node : (node : List ℕ) (line : ℕ) (cookie : List ℕ) (profile : Profile) → has_float (node_data node line cookie profile) ≡ false
in_node node line cookie profile = refl
