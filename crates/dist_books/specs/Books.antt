-- The book of a node, which its thread keeps: the node, the history of its events, and of each trunk what went through its wire end.
use Rattle.std.specs.Prelude.{◌≡◌, ◌≢◌, ◌⊎◌, ℕ, suc, ◌<◌, Option, None, Some, List, []}
use Rattle.std.specs.Prelude.{◌∷◌, ◌++◌, drop, length, slice_index_or, if◌then◌else◌}
use Rattle.dist_books.specs.Acting.{Acts, Nodes, Way, name_at, opened_at, same_way}
use Rattle.dist_model.specs.Items.{Item}
use Rattle.dist_model.specs.Names.{Name, same_name}
use Rattle.dist_model.specs.Node.{Node}
use Rattle.dist_model.specs.Runs.{new_node}
use Rattle.dist_model.specs.World.{Event, Report}
use Rattle.erl_names.specs.declared.trunk.TrunkId.{TrunkId}
use Rattle.dist_books.specs.Logs.{AllTakeEarlier, Entry, Leads, Line, entries_of, sent_on, took_on}
use Rattle.dist_books.specs.Acting.{nowhere}

-- an item with the stamp of the event that sent it
abbrev pub Stamped : Type 0
Stamped = ℕ × Item

-- a node's end of a trunk's wires: towards whom it is; what it has put, and what waits before it; what it has taken, and what of
-- that hasn't come to the node yet
pub record Port : Type 0 where
  pub peer : Name
  pub put : List Stamped
  pub outbox : List Stamped
  pub taken : List Stamped
  pub slot : List Stamped

pub record Book : Type 0 where
  pub node : Node
  -- the stamp of its last event
  pub last : ℕ
  pub history : List (Entry Event Report)
  pub ports : TrunkId → Option Port

-- ---- what went through a port, towards a peer where it matters

abbrev pub taken_by : Option Port → List Stamped
taken_by None = []
taken_by (Some port) = port.taken

abbrev pub slot_of : Option Port → List Stamped
slot_of None = []
slot_of (Some port) = port.slot

abbrev pub put_to : Name → Option Port → List Stamped
put_to peer None = []
put_to peer (Some port) = if same_name port.peer peer then port.put else []

abbrev pub outbox_to : Name → Option Port → List Stamped
outbox_to peer None = []
outbox_to peer (Some port) = if same_name port.peer peer then port.outbox else []

-- ---- a book replays

abbrev pub Log : Type 0
Log = List (Line Event Report Way Item)

-- stamps rise from above the first number to the last
abbrev pub Rise : ℕ → List (Entry Event Report) → ℕ → Type 0
Rise from [] last = last ≡ from
Rise from (entry ∷ rest) last = (from < entry.stamp) × Rise entry.stamp rest last

-- The port of a trunk that the node has dialed is towards another node. That of one that it was dialed on is towards the dialer, and
-- before the node has taken something nothing goes out.
abbrev pub IsPort : Name → TrunkId → Option Port → List Stamped → Type 0
IsPort own trunk None took = Unit {0}
IsPort own trunk (Some port) took =
    ((trunk.dialer ≡ own) × (port.peer ≢ own))
    ⊎ ((trunk.dialer ≢ own) × (port.peer ≡ trunk.dialer) × (took ≡ [] → port.put ++ port.outbox ≡ []))

-- the book of the node of this number, with a log that replays its history
pub record Replays (nodes : Nodes) (k : ℕ) (book : Book) (log : Log) : Type 0 where
  pub history : book.history ≡ entries_of log
  pub leads : Leads (Acts nodes) k (opened_at nodes k) log book.node
  pub rise : Rise 0 book.history book.last
  pub earlier : AllTakeEarlier log
  -- what the log sends on a trunk to a peer was put, or waits; what was taken the log takes, or the slot holds
  pub out : (trunk : TrunkId) (peer : Name)
      → sent_on same_way (trunk, peer) log ≡ put_to peer (book.ports trunk) ++ outbox_to peer (book.ports trunk)
  pub into : (trunk : TrunkId)
      → taken_by (book.ports trunk) ≡ took_on same_way (trunk, name_at nodes k) log ++ slot_of (book.ports trunk)
  pub port : (trunk : TrunkId) → IsPort (name_at nodes k) trunk (book.ports trunk) (took_on same_way (trunk, name_at nodes k) log)

abbrev pub Kept : Nodes → ℕ → Book → Type 0
Kept nodes k book = (log : Log) × Replays nodes k book log

-- of a node to which nothing has happened yet
abbrev pub new_book : Node → Book
new_book node = record { node = node; last = 0; history = []; ports = λ trunk. None }

abbrev pub NewBooksAreKept : Type 0
NewBooksAreKept = (nodes : Nodes) (k : ℕ) → Kept nodes k (new_book (opened_at nodes k))

-- ---- the books of all nodes, by their numbers

-- of nobody
abbrev pub no_book : Book
no_book = new_book (new_node [] nowhere.1)

abbrev pub book_at : List Book → ℕ → Book
book_at books k = slice_index_or books k no_book

-- the number of the node of a name; of none, how many there are
abbrev pub number_of : Nodes → Name → ℕ
number_of [] name = 0
number_of (node ∷ rest) name = if same_name node.0 name then 0 else suc (number_of rest name)

abbrev pub AreDistinct : Nodes → Type 0
AreDistinct nodes = (j k : ℕ) → j < length nodes → k < length nodes → name_at nodes j ≡ name_at nodes k → j ≡ k

module _ (nodes : Nodes) (books : List Book) where
  abbrev pub AllKept : Type 0
  AllKept = (k : ℕ) → k < length nodes → Kept nodes k (book_at books k)

  -- the port of a trunk at the node of a name
  abbrev pub port_of : Name → TrunkId → Option Port
  port_of name trunk = (book_at books (number_of nodes name)).ports trunk

  -- what each port has taken begins what the peer's has put to it
  abbrev pub WiresAgree : Type 0
  WiresAgree = (k : ℕ) (trunk : TrunkId) (port : Port) → k < length nodes → (book_at books k).ports trunk ≡ Some port
      → (rest : List Stamped) × (put_to (name_at nodes k) (port_of port.peer trunk) ≡ port.taken ++ rest)

  -- who sends on a way: the dialer of the trunk, or where the way leads to the dialer, the peer that this has for the trunk
  abbrev pub peer_in : Option Port → ℕ
  peer_in None = length nodes
  peer_in (Some port) = number_of nodes port.peer

  abbrev pub sender : Way → ℕ
  sender way = if same_name way.0.dialer way.1 then peer_in (port_of way.1 way.0) else number_of nodes way.0.dialer

  -- what is on a way: what the slot holds, what is still on the wire, and the outbox
  abbrev pub on_the_way : Way → List Stamped
  on_the_way way =
      let into = port_of way.1 way.0 in
      let out = (book_at books (sender way)).ports way.0 in
      slot_of into ++ (drop (length (taken_by into)) (put_to way.1 out) ++ outbox_to way.1 out)
