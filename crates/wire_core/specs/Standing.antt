-- The port of a book of dist_books that a node's end of a connection stands for: the same parcels, read as items.
use Rattle.std.specs.Prelude.{◌≡◌, List, [], ◌∷◌}
use Rattle.dist_books.specs.Books.{Port, Stamped}
use Rattle.dist_books.specs.Growing.{Shifts}
use Rattle.node_frames.specs.Frames.{IsSpelled, bytes_of}
use Rattle.wire_core.specs.Fetching.{Fetches}
use Rattle.wire_core.specs.Ports.{PortSeen, flushed, fresh}
use Rattle.wire_core.specs.declared.parcel.Parcel.{Parcel}
use Rattle.erl_names.specs.declared.trunk.TrunkId.{TrunkId}
use Rattle.dist_model.specs.Names.{Name}

-- a parcel carries an item, under the stamp of the event that sent it
pub record Carries (parcel : Parcel) (sent : Stamped) : Type 0 where
  pub stamp : parcel.stamp ≡ sent.0
  pub bytes : parcel.bytes ≡ bytes_of sent.1
  pub spelled : IsSpelled sent.1

abbrev pub CarryAll : List Parcel → List Stamped → Type 0
CarryAll [] [] = Unit {0}
CarryAll (parcel ∷ parcels) (sent ∷ rest) = Carries parcel sent × CarryAll parcels rest
CarryAll _ _ = ⊥

pub record StandsFor (seen : PortSeen) (port : Port) : Type 0 where
  pub peer : port.peer ≡ seen.peer
  pub put : CarryAll seen.put port.put
  pub outbox : CarryAll seen.outbox port.outbox
  pub taken : CarryAll seen.taken port.taken
  pub slot : CarryAll seen.slot port.slot

-- the port of a book stays the same but for what has moved
pub record ShiftsTo (seen : PortSeen) (port : Port) : Type 0 where
  pub next : Port
  pub stands : StandsFor seen next
  pub shifts : Shifts port next

abbrev pub no_port : Name → Port
no_port peer = record { peer = peer; put = []; outbox = []; taken = []; slot = [] }

abbrev pub FreshStands : Type 0
FreshStands = (trunk : TrunkId) (peer : Name) → StandsFor (fresh trunk peer) (no_port peer)

-- the next piece is put, and a piece is taken
abbrev pub FlushShifts : Type 0
FlushShifts = (seen : PortSeen) (port : Port) → StandsFor seen port → ShiftsTo (flushed seen seen.outbox) port

abbrev pub FetchShifts : Type 0
FetchShifts = (seen new : PortSeen) (port : Port) → Fetches seen new → StandsFor seen port → ShiftsTo new port
