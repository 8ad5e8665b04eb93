-- What an entry tells, once more.
use Rattle.std.specs.Prelude.{◌≡◌, ◌≢◌, ◌⊎◌, ℕ, Err, false, map}
use Rattle.dist_books.specs.Acting.{Nodes}
use Rattle.dist_model.specs.World as model
use Rattle.erl_term.specs.declared.refusal.Refusal.{Refusal}
use Rattle.node_history.specs.declared.entry.Entry.{Entry}
use Rattle.world_core.specs.Names.{are_distinct, name_at}
use Rattle.node_core.specs.NodeEvents.{event_at}
use Rattle.world_core.specs.Stands.{StandsFor}
use Rattle.world_core.specs.declared.world.World.{World}

-- Its event happens at the node of this place, and memory isn't wanting; where memory was, nothing happens.
abbrev pub HappensAgain : (m : model.World) (node : ℕ) (entry : Entry) (new : World) → Type 0
HappensAgain m node entry new =
    ((entry.answer ≡ Err Refusal.OutOfMemory) × StandsFor new m)
    ⊎ ((entry.answer ≢ Err Refusal.OutOfMemory) × StandsFor new ((model.step m (event_at (name_at m.names node) entry.event)).world))

-- no world has these nodes, since two have one name; or memory was wanting
abbrev pub IsUnopened : Nodes → Refusal → Type 0
IsUnopened nodes e = ((e ≡ Refusal.BadName) × (are_distinct (map (λ node. node.0) nodes) ≡ false)) ⊎ (e ≡ Refusal.OutOfMemory)
