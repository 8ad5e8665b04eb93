-- A line has one text, since its bytes are read in one way.
use Rattle.std.proofs.Common.{◌≡◌, ℕ, List, [], ◌∷◌, ◌++◌, Option, Some, Result, refl, sym, ap, ap₂, ◌∙◌}
use Rattle.dist_model.specs.Items.{Item}
use Rattle.dist_model.specs.declared.report.Effect.{Effect}
use Rattle.dist_model.specs.declared.report.Report.{Report}
use Rattle.erl_names.specs.declared.trunk.TrunkId.{TrunkId}
use Rattle.erl_term.specs.declared.refusal.Refusal.{Refusal}
use Rattle.item_texts.specs.Reading.{IsRead, read_of}
use Rattle.item_texts.specs.declared.reading.ReadItem.{ReadItem}
use Rattle.node_core.specs.declared.node_event.NodeEvent.{NodeEvent}
use Rattle.node_frames.specs.Frames.{Framed, IsSpelled, bytes_of, framed}
use Rattle.script_json.specs.Events.{event_data}
use Rattle.script_json.specs.Fields.{AreFields, fields_data, fields_if}
use Rattle.script_json.specs.Reports.{AreEffects, IsEffectData, IsLineData, IsLineText, brought, came_data, parts_data, sent_data}
use Rattle.serde_json.specs.Data.{Data, array}
use Rattle.serde_json.specs.View.{items_of}
use Rattle.serde_json.specs.Written.{compact_text}

abbrev pub OneReading : Type 0
OneReading = (bytes : List ℕ) (one other : Option ReadItem) → IsRead bytes one → IsRead bytes other → one ≡ other

same_fields : OneReading → (bytes : List ℕ) (a b : Data) → AreFields bytes a → AreFields bytes b → a ≡ b
same_fields once bytes a b p q = p.2 ∙ ap fields_if (once bytes p.0 q.0 p.1 q.1) ∙ sym q.2

same_effect : OneReading → (effect : Effect Framed) (a b : Data) → IsEffectData effect a → IsEffectData effect b → a ≡ b
same_effect once (Effect.Sent trunk peer frame) a b p q =
    p.2 ∙ ap (λ (fields : Data). sent_data trunk peer frame.bytes fields) (same_fields once frame.bytes p.0 q.0 p.1 q.1) ∙ sym q.2
same_effect once _ a b p q = p ∙ sym q

same_effects : OneReading → (effects : List (Effect Framed)) (a b : List Data) → AreEffects effects a → AreEffects effects b → a ≡ b
same_effects once [] [] [] p q = refl
same_effects once [] [] (y ∷ ys) p q = absurd q
same_effects once [] (x ∷ xs) ys p q = absurd p
same_effects once (effect ∷ effects) [] ys p q = absurd p
same_effects once (effect ∷ effects) (x ∷ xs) [] p q = absurd q
same_effects once (effect ∷ effects) (x ∷ xs) (y ∷ ys) p q =
    ap₂ (λ (told : Data) (all : List Data). told ∷ all) (same_effect once effect x y p.0 q.0) (same_effects once effects xs ys p.1 q.1)

same_data : OneReading → (node : List ℕ) (line : ℕ) (event : Data) (came : Result (Report Framed) Refusal) (a b : Data)
    → IsLineData node line event came a → IsLineData node line event came b → a ≡ b
same_data once node line event came a b p q =
    p.2 ∙ ap (λ (all : List Data). parts_data node line event (came_data came) (array (items_of all)))
    (same_effects once (brought came) p.0 q.0 p.1 q.1) ∙ sym q.2

pub one_text : OneReading → (node : List ℕ) (line : ℕ) (event : NodeEvent) (came : Result (Report Framed) Refusal) (one other : List ℕ)
    → IsLineText node line event came one → IsLineText node line event came other → one ≡ other
unfolding IsLineText
one_text once node line event came one other p q =
    p.2 ∙ ap compact_text (same_data once node line (event_data event) came p.0 q.0 p.1 q.1) ∙ sym q.2

-- ---- an item that is sent has its fields

pub sent_has_fields : OneReading → ((item : Item) → IsSpelled item → IsRead (bytes_of item) (Some (read_of item)))
    → (trunk : Option TrunkId) (peer : List ℕ) (item : Item) (told : Data) → IsSpelled item
    → IsEffectData (Effect.Sent trunk peer (framed item)) told → told ≡ sent_data trunk peer (bytes_of item) (fields_data (read_of item))
sent_has_fields once sent trunk peer item told s h =
    h.2 ∙ ap (λ (fields : Data). sent_data trunk peer (bytes_of item) fields)
    (h.1.2 ∙ ap fields_if (once (bytes_of item) h.1.0 (Some (read_of item)) h.1.1 (sent item s)))
