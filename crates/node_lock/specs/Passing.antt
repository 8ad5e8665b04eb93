-- What passes at the connections of a book between two entries.
use Rattle.std.specs.Prelude.{◌≡◌, ◌⊎◌, ◌≤◌, ℕ, None, Some, List, [], ◌∷◌, ◌++◌, if◌then◌else◌, length, map}
use Rattle.std.specs.Ordering.{eq_by_cmp}
use Rattle.dist_model.specs.Names.{Name}
use Rattle.erl_names.specs.Order.{trunk_cmp}
use Rattle.erl_names.specs.declared.trunk.TrunkId.{TrunkId}
use Rattle.node_history.specs.declared.entry.Entry.{Entry}
use Rattle.node_lock.specs.Standing.{outlet_of}
use Rattle.node_lock.specs.Waiting.{waiting}
use Rattle.node_lock.specs.declared.outlet.Outlet.{Outlet}
use Rattle.wire_core.specs.Fetching.{Fetches}
use Rattle.wire_core.specs.Ports.{EndsFull, PortSeen, fresh, with_greatest}
use Rattle.wire_core.specs.Streams.{begun_marks, marks_of_parcels}
use Rattle.wire_core.specs.Cuts.{marks_of}
use Rattle.wire_core.specs.Pieces.{PieceSeen}
use Rattle.wire_core.specs.declared.parcel.Parcel.{Parcel}

-- what a parcel says: the stamp of the event that sent it, and the bytes of the item
abbrev pub said : Parcel → ℕ × List ℕ
said parcel = (parcel.stamp, parcel.bytes)

-- what waits to be put at an outlet: what its outbox holds, and then what the history has sent since
abbrev pub waits : List Entry → Outlet → List (ℕ × List ℕ)
waits entries outlet =
    map said outlet.port.outbox
    ++ map (λ sent. (sent.0, sent.1.bytes)) (waiting (outlet.port.trunk, outlet.port.peer) outlet.entry outlet.effects entries)

-- so many pieces were put: of what waited, in its order, those parcels whose last byte is among them are put. The pieces have the
-- bytes of these parcels, but for what was put of the first before, and then what is put now of the next. Nothing else went through
-- the port
pub record Puts (entries : List Entry) (old new : Outlet) (count : ℕ) : Type 0 where
  pub trunk : new.port.trunk ≡ old.port.trunk
  pub peer : new.port.peer ≡ old.port.peer
  pub taken : new.port.taken ≡ old.port.taken
  pub slot : new.port.slot ≡ old.port.slot
  pub gathered : new.port.gathered ≡ old.port.gathered
  pub greatest : new.port.greatest ≡ old.port.greatest
  pub cut : List PieceSeen
  pub many : length cut ≡ count
  pub pieces : new.port.pieces ≡ old.port.pieces ++ cut
  pub moved : List Parcel
  pub few : length moved ≤ count
  pub put : new.port.put ≡ old.port.put ++ moved
  pub waited : waits entries old ≡ map said moved ++ waits entries new
  pub bytes : begun_marks old.port.begun old.port.outbox ++ marks_of cut ≡ marks_of_parcels moved
      ++ begun_marks new.port.begun new.port.outbox

-- nothing waits, or the wire was full at some moment
abbrev pub IsStill : List Entry → Outlet → Type 0
IsStill entries outlet = (waits entries outlet ≡ []) ⊎ EndsFull outlet.port.pieces

-- a piece was taken where the slot was empty
abbrev pub Takes : (old new : Outlet) → Type 0
Takes old new = (port : PortSeen) × (old.port.slot ≡ []) × Fetches old.port port × (new ≡ record old { port = port })

-- a new end of a connection to a peer, which the history feeds from an entry on
abbrev pub new_outlet : (greatest : ℕ) → TrunkId → Name → (entry : ℕ) → Outlet
new_outlet greatest trunk peer entry = record { port = with_greatest (fresh trunk peer) greatest; entry = entry; effects = 0 }

-- of a connection that the dialer of its trunk has dialed, through which nothing went yet, behind all that has happened
abbrev pub fresh_outlet : (greatest : ℕ) → List Entry → TrunkId → Outlet
fresh_outlet greatest entries trunk = new_outlet greatest trunk trunk.dialer (length entries)

-- pieces of so many bytes at most are put from now on
abbrev pub with_piece : (greatest : ℕ) → Outlet → Outlet
with_piece greatest outlet = record outlet { port = with_greatest outlet.port greatest }

-- the first outlet of a connection becomes another
abbrev pub with_outlet : TrunkId → Outlet → List Outlet → List Outlet
with_outlet trunk new [] = []
with_outlet trunk new (outlet ∷ rest) =
    if eq_by_cmp trunk_cmp trunk outlet.port.trunk then new ∷ rest else outlet ∷ with_outlet trunk new rest

-- this has become of the outlet of a connection, and nothing of the others
abbrev pub AtOutlet : TrunkId → (Outlet → Outlet → Type 0) → (old new : List Outlet) → Type 0
AtOutlet trunk Becomes old new =
    (outlet next : Outlet) × (outlet_of trunk old ≡ Some outlet) × Becomes outlet next × (new ≡ with_outlet trunk next old)

-- so many pieces were put at the outlet of a connection; none where there is no such connection
abbrev pub PutsAt : TrunkId → List Entry → (old new : List Outlet) → (count : ℕ) → Type 0
PutsAt trunk entries old new count =
    ((outlet_of trunk old ≡ None) × (new ≡ old) × (count ≡ 0)) ⊎ AtOutlet trunk (λ outlet next. Puts entries outlet next count) old new

abbrev pub IsStillAt : TrunkId → List Entry → (old new : List Outlet) → Type 0
IsStillAt trunk entries old new = (outlet_of trunk old ≡ None) ⊎ AtOutlet trunk (λ outlet next. IsStill entries next) old new
