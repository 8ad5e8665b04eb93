-- What comes next on a connection, and whether its reader reads it: a side that is up reads signals and ticks, any other
-- messages of the handshake for its role, and a node without a side those for an acceptor.
-- (ERTS User's Guide, Distribution Protocol, Distribution Handshake and Protocol between Connected Nodes.)
use Rattle.std.specs.Prelude.{◌≡◌, Option, None, Some, ℕ, Bool, true, false, not, List, [], ◌∷◌}
use Rattle.std.specs.FinMap as fm
use Rattle.dist_model.specs.Due.{is_handshake, shakes_for}
use Rattle.dist_model.specs.Items.{Item}
use Rattle.dist_model.specs.Node.{Node}
use Rattle.dist_model.specs.Sides as state
use Rattle.dist_model.specs.Sides.{State, TrunkSide}
use Rattle.erl_names.specs.declared.trunk.TrunkId.{TrunkId}
use Rattle.node_core.specs.Arrived.{is_undialed}
use Rattle.node_frames.specs.Frames.{Framed, IsSpelled, framed}

abbrev pub reads : State → Item → Bool
reads (state.AwaitsStatus word) item = shakes_for true item
reads (state.AwaitsChallenge word) item = shakes_for true item
reads (state.AwaitsAck word) item = shakes_for true item
reads (state.Asked word) item = shakes_for false item
reads (state.Parked word) item = shakes_for false item
reads (state.Accepting word) item = shakes_for false item
reads state.Up item = not (is_handshake item)
-- whatever comes isn't read any more
reads state.Losing item = true
reads state.Gone item = true

abbrev pub reads_at : Option TrunkSide → Item → Bool
reads_at None item = shakes_for false item
reads_at (Some side) item = reads side.state item

pub record CanCome (m : Node) (trunk : TrunkId) (item : Item) : Type 0 where
  pub spelled : IsSpelled item
  pub read : reads_at (fm.get m.sides trunk) item ≡ true
  pub theirs : is_undialed m trunk (fm.get m.sides trunk) ≡ false

abbrev pub bytes_in : List Framed → List ℕ
bytes_in [] = []
bytes_in (frame ∷ rest) = frame.bytes

-- the first of what travels, if anything does
abbrev pub IsNext : Node → TrunkId → List Framed → Option Item → Type 0
IsNext m trunk frames None = frames ≡ []
IsNext m trunk frames (Some item) = (rest : List Framed) × (frames ≡ framed item ∷ rest) × CanCome m trunk item
