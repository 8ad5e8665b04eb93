-- Wires whose two ends agree: what each book took of a connection begins what the other has put on it to this one.
use Rattle.std.specs.Prelude.{◌≡◌, ℕ, ◌+◌, Option, None, Some, List, [], ◌∷◌, All, Contains, slice_index_or, if◌then◌else◌}
use Rattle.dist_model.specs.Names.{Name, same_name}
use Rattle.erl_names.specs.declared.trunk.TrunkId.{TrunkId}
use Rattle.joined_books.specs.Parcels.{Begins, IsTornAt}
use Rattle.node_lock.specs.Seen.{BookSeen}
use Rattle.node_lock.specs.Standing.{outlet_of}
use Rattle.node_lock.specs.declared.outlet.Outlet.{Outlet}
use Rattle.wire_core.specs.Ports.{PortSeen}
use Rattle.wire_core.specs.declared.parcel.Parcel.{Parcel}

-- ---- what was put to a node

-- the name of a book's node
abbrev pub own : BookSeen → Name
own book = slice_index_or book.names book.place []

-- the ends of connections of the node of a name
abbrev pub outlets_named : List BookSeen → Name → List Outlet
outlets_named [] name = []
outlets_named (book ∷ books) name = if same_name (own book) name then book.outlets else outlets_named books name

abbrev pub put_to : Name → Option Outlet → List Parcel
put_to name None = []
put_to name (Some outlet) = if same_name outlet.port.peer name then outlet.port.put else []

-- what the peer of a port has put on its connection to the node of this name
abbrev pub put_towards : List BookSeen → Name → PortSeen → List Parcel
put_towards books name port = put_to name (outlet_of port.trunk (outlets_named books port.peer))

-- ---- the wires of all books

abbrev pub IsWhole : List BookSeen → Name → Outlet → Type 0
IsWhole books name outlet = Begins outlet.port.taken (put_towards books name outlet.port)

abbrev pub IsWholeAt : List BookSeen → BookSeen → Type 0
IsWholeAt books book = All (IsWhole books (own book)) book.outlets

abbrev pub AreWhole : List BookSeen → Type 0
AreWhole books = All (IsWholeAt books) books

-- of what a book took of a connection, this is the number, from 1, of the first that wasn't put so
pub record IsTornIn (books : List BookSeen) (book : BookSeen) (trunk : TrunkId) (seq : ℕ) : Type 0 where
  pub outlet : Outlet
  pub there : Contains book.outlets outlet
  pub trunk_is : outlet.port.trunk ≡ trunk
  pub place : ℕ
  pub seq_is : seq ≡ place + 1
  pub torn : IsTornAt outlet.port.taken (put_towards books (own book) outlet.port) place

pub record IsTorn (books : List BookSeen) (trunk : TrunkId) (seq : ℕ) : Type 0 where
  pub book : BookSeen
  pub there : Contains books book
  pub torn : IsTornIn books book trunk seq
