-- What comes on a connection: the front of its bytes, and what a node does with it.
-- (ERTS User's Guide, Distribution Protocol.)
use Rattle.std.specs.Prelude.{◌≡◌, ℕ, Option, None, Some, Bool, false, List, Result, Ok, Err}
use Rattle.std.specs.FinMap as fm
use Rattle.dist_model.specs.Commands.{Outcome}
use Rattle.dist_model.specs.Names.{same_name}
use Rattle.dist_model.specs.Node.{Node}
use Rattle.dist_model.specs.NodeEvents.{if_up}
use Rattle.dist_model.specs.Sides.{TrunkSide}
use Rattle.erl_names.specs.declared.trunk.TrunkId.{TrunkId}
use Rattle.erl_term.specs.declared.refusal.Refusal.{Refusal}
use Rattle.node_connections.specs.Coming.{comes}
use Rattle.node_connections.specs.Fronts.{Front, IsFront, len_of}
use Rattle.node_core.specs.Done.{Did}
use Rattle.node_core.specs.declared.arriving.Arrived.{Arrived}
use Rattle.node_plan.specs.Planned.{IsRefused}

-- the node would have dialed on this connection, and has no side of it: so nothing comes on it
abbrev pub is_undialed : Node → TrunkId → Option TrunkSide → Bool
is_undialed m trunk None = same_name trunk.dialer m.mint.name
is_undialed m trunk (Some side) = false

abbrev pub arrives : Node → TrunkId → Front → (word : ℕ) → Outcome
arrives m trunk front word = if_up m (comes m trunk (fm.get m.sides trunk) front word)

abbrev pub without_len : Result ℕ Refusal → Result (Unit {0}) Refusal
without_len (Ok len) = Ok tt
without_len (Err e) = Err e

-- a refused arrival changes nothing
abbrev pub DoesFront : Outcome → Front → (old new : Node) → Result Arrived Refusal → Type 0
DoesFront due front old new (Ok arrived) = Did due new arrived.report × (arrived.len ≡ len_of front)
DoesFront due front old new (Err e) = IsRefused due e × (new ≡ old)

pub record DoesArrived (old new : Node) (trunk : TrunkId) (bytes : List ℕ) (word : ℕ) (result : Result Arrived Refusal) : Type 0 where
  pub front : Front
  pub is : IsFront (fm.get old.sides trunk) bytes front
  pub does : DoesFront (arrives old trunk front word) front old new result
