-- The nodes that an event may give something to do, and the first nodes, at which nothing may happen.
use Rattle.std.specs.Prelude.{◌≡◌, ◌||◌, None, Some, ℕ, Bool, false, List, ◌++◌, take}
use Rattle.std.specs.List.{list_any}
use Rattle.dist_model.specs.Names.{Name, same_name}
use Rattle.dist_model.specs.World.{Event}
use Rattle.dist_model.specs.declared.report.Effect.{Effect}
use Rattle.script_session.specs.Stage.{Stage as TheStage, after, trace_of}
use Rattle.script_session.specs.Stands.{IsStage}
use Rattle.script_session.specs.Turns.{first_turn}
use Rattle.script_session.specs.declared.stage.Stage.{Stage}

-- sent on a connection to the node of this name
abbrev pub is_sent_to : {A : Type 0} → Name → Effect A → Bool
is_sent_to name (Effect.Sent (Some trunk) peer item) = same_name peer name
is_sent_to name effect = false

-- the node at which an event with these effects happens, and each node to which it sends
abbrev pub is_touched : {A : Type 0} → (node : Name) → List (Effect A) → (name : Name) → Bool
is_touched node effects name = same_name name node || list_any (is_sent_to name) effects

-- nothing may happen at so many of the first nodes
abbrev pub AreIdle : TheStage → ℕ → Type 0
AreIdle it count = first_turn it.world it.word (take count it.world.nodes) ≡ None

-- an event has happened, and so many of the first nodes are idle then
pub record Turned (event : Event) (it : TheStage) (new : Stage) (old_text new_text : List ℕ) (count : ℕ) : Type 0 where
  pub stage : IsStage new (after it event)
  pub text : new_text ≡ old_text ++ trace_of it event
  pub idle : AreIdle (after it event) count
