-- One entry more in the history of a node.
-- (ERTS User's Guide, Distribution Protocol; Reference Manual, Processes. Stamps are own.)
use Rattle.std.specs.Prelude.{◌≡◌, ◌⊎◌, ℕ, ◌+◌, ◌^◌, ◌<◌, ◌≤◌, max, Bool, true, false, [], ◌∷◌, ◌++◌, length, Result, Ok, Err}
use Rattle.dist_model.specs.Commands.{Outcome, Refuses}
use Rattle.dist_model.specs.Node.{Node}
use Rattle.dist_model.specs.declared.report.Report.{Report}
use Rattle.erl_term.specs.declared.refusal.Refusal.{Refusal}
use Rattle.node_core.specs.Done.{Did}
use Rattle.node_core.specs.Model.{model_of}
use Rattle.node_history.specs.declared.history.History.{History}
use Rattle.node_frames.specs.Frames.{Framed}
use Rattle.node_core.specs.declared.node_event.NodeEvent.{NodeEvent}

abbrev pub Answer : Type 0
Answer = Result (Report Framed) Refusal

-- an event comes to its end: it is accepted or refused, and want of memory is none of a model's refusals
abbrev pub Ends : Outcome → (old new : Node) → Answer → Type 0
Ends due old new (Ok report) = Did due new report
Ends due old new (Err e) = (due ≡ Refuses e) × (new ≡ old)

-- The entry of an event. Its stamp is one more than the greater of the last one and of that under which was sent what has come.
pub record Enters (due : Outcome) (event : NodeEvent) (above : ℕ) (old new : History) : Type 0 where
  pub answer : Answer
  pub entries : new.entries.items ≡ old.entries.items ++ record { stamp = new.last; event = event; answer = answer } ∷ []
  pub stamp : new.last ≡ max old.last above + 1
  pub ends : Ends due (model_of old.node) (model_of new.node) answer

pub record Stays (old new : History) : Type 0 where
  pub node : model_of new.node ≡ model_of old.node
  pub last : new.last ≡ old.last
  pub entries : new.entries.items ≡ old.entries.items

-- why there is no entry: no higher stamp is left, or memory is wanting
abbrev pub IsWanting : (last above : ℕ) → Refusal → Type 0
IsWanting last above e =
    ((e ≡ Refusal.IdsUsedUp) × (2 ^ 64 ≤ max last above + 1)) ⊎ ((e ≡ Refusal.OutOfMemory) × (max last above + 1 < 2 ^ 64))

-- the entry stands at that place, or nothing has changed
abbrev pub Tries : Outcome → NodeEvent → ℕ → (old new : History) → Result ℕ Refusal → Type 0
Tries due event above old new (Ok place) = Enters due event above old new × (place ≡ length old.entries.items)
Tries due event above old new (Err e) = Stays old new × IsWanting old.last above e

-- ---- what is written down of an answer

abbrev pub is_unwritten : Answer → Bool
is_unwritten (Err Refusal.OutOfMemory) = true
is_unwritten _ = false

abbrev pub Writes : ℕ → NodeEvent → Answer → (old new : History) → Result ℕ Refusal → Type 0
Writes stamp event answer old new (Ok place) =
    (is_unwritten answer ≡ false) × (new.node ≡ old.node) × (new.last ≡ stamp) × (place ≡ length old.entries.items)
    × (new.entries.items ≡ old.entries.items ++ record { stamp = stamp; event = event; answer = answer } ∷ [])
Writes stamp event answer old new (Err e) =
    (is_unwritten answer ≡ true) × (new.node ≡ old.node) × (new.last ≡ old.last) × (e ≡ Refusal.OutOfMemory)
    × (new.entries.items ≡ old.entries.items)
