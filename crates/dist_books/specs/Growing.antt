-- One entry more in a book: an event comes to its node, and what that sends goes behind what waits.
use Rattle.std.specs.Prelude.{◌≡◌, ◌≢◌, ℕ, ◌<◌, Option, None, Some, List, [], ◌∷◌, ◌++◌, length, Contains}
use Rattle.dist_books.specs.Acting.{IsMet, Nodes, Way, meets, name_at, names_of, next_of, opened_at, report_of, same_way, sent_in, taken_in}
use Rattle.dist_books.specs.Books.{Book, Log, Port, Replays, Stamped, new_book}
use Rattle.dist_model.specs.Commands.{Accepts, Outcome, Refuses}
use Rattle.dist_model.specs.Dialing.{next_trunk}
use Rattle.dist_model.specs.Items.{Item}
use Rattle.dist_model.specs.Keeping.{CountsOwn, Dials, Towards}
use Rattle.dist_model.specs.Names.{Name}
use Rattle.dist_model.specs.Node.{Node}
use Rattle.dist_model.specs.NodeEvents.{NodeEvent, at_node}
use Rattle.dist_model.specs.World.{Event, node_name}
use Rattle.dist_model.specs.declared.report.Effect.{Effect}
use Rattle.erl_names.specs.declared.trunk.TrunkId.{TrunkId}
use Rattle.dist_books.specs.Logs.{TakesEarlier, bare_took, off, on, stamped, took_on}

-- ---- what a book keeps of its node's sides

abbrev pub IsTowards : Option Port → Name → Type 0
IsTowards None peer = ⊥
IsTowards (Some port) peer = port.peer ≡ peer

pub record HasPorts (own : Name) (book : Book) (log : Log) : Type 0 where
  pub name : book.node.mint.name ≡ own
  -- each side has a port, towards the same peer
  pub there : (trunk : TrunkId) (peer : Name) → Towards book.node trunk peer → IsTowards (book.ports trunk) peer
  -- where another node dialed, the side came of what that node sent
  pub heard : (trunk : TrunkId) (peer : Name) → Towards book.node trunk peer → trunk.dialer ≢ own
      → took_on same_way (trunk, own) log ≢ []
  -- where this node dialed, each port has a side
  pub dialed : (trunk : TrunkId) (port : Port) → trunk.dialer ≡ own → book.ports trunk ≡ Some port → Towards book.node trunk port.peer

-- a log that replays a book of which all this holds
pub record Follows (nodes : Nodes) (k : ℕ) (book : Book) : Type 0 where
  pub log : Log
  pub replays : Replays nodes k book log
  pub ports : HasPorts (name_at nodes k) book log

-- ---- what an event leaves of a port

module _ (own : Name) (sent : List (Way × List Item)) (took : Option (Way × List Stamped)) (stamp : ℕ) (trunk : TrunkId) where
  pub record Grows (old new : Port) : Type 0 where
    pub peer : new.peer ≡ old.peer
    pub out : new.put ++ new.outbox ≡ (old.put ++ old.outbox) ++ stamped stamp (on same_way (trunk, old.peer) sent)
    pub taken : new.taken ≡ old.taken
    pub slot : old.slot ≡ off same_way (trunk, own) took ++ new.slot

  -- a port that the event has opened
  pub record Opens (node next : Node) (event : NodeEvent) (new : Port) : Type 0 where
    pub dials : Dials node event trunk new.peer
    pub side : Towards next trunk new.peer
    pub out : new.put ++ new.outbox ≡ stamped stamp (on same_way (trunk, new.peer) sent)
    pub taken : new.taken ≡ []
    pub slot : new.slot ≡ []

  abbrev pub Leaves : Node → Node → NodeEvent → Option Port → Option Port → Type 0
  Leaves node next event None None = off same_way (trunk, own) took ≡ []
  Leaves node next event None (Some new) = (off same_way (trunk, own) took ≡ []) × Opens node next event new
  Leaves node next event (Some old) None = ⊥
  Leaves node next event (Some old) (Some new) = Grows old new

-- ---- the entry of an event, at which this item came, with the stamp under which it was sent

module _ (nodes : Nodes) (k : ℕ) (event : Event) (first : Option Item) where
  abbrev pub comes_to : Book → Outcome
  comes_to book = at_node (names_of nodes) book.node (meets event first)

  pub record Enters (book : Book) (took : Option (Way × List Stamped)) (stamp : ℕ) (next : Book) : Type 0 where
    pub takes : bare_took took ≡ taken_in event first (comes_to book)
    pub earlier : TakesEarlier stamp took
    pub rises : book.last < stamp
    pub last : next.last ≡ stamp
    pub node : next.node ≡ next_of book.node (comes_to book)
    pub history : next.history ≡ book.history ++ record { stamp = stamp; event = event; answer = report_of (comes_to book) } ∷ []
    pub ports : (trunk : TrunkId)
        → Leaves (name_at nodes k) (sent_in (comes_to book)) took stamp trunk book.node next.node (meets event first)
        (book.ports trunk) (next.ports trunk)
    -- what the node dials on has a port
    pub opened : (trunk : TrunkId) (peer : Name) → Dials book.node (meets event first) trunk peer → Towards next.node trunk peer
        → IsTowards (next.ports trunk) peer

abbrev pub BooksGrow : Type 0
BooksGrow = (nodes : Nodes) (k : ℕ) (event : Event) (first : Option Item) (book : Book) (took : Option (Way × List Stamped))
    (stamp : ℕ) (next : Book)
    → k < length nodes → node_name event ≡ name_at nodes k → IsMet event first → CountsOwn book.node
    → Follows nodes k book → Enters nodes k event first book took stamp next → Follows nodes k next

-- ---- between two entries

-- what waits is put, and what was put comes into the slot
pub record Shifts (old new : Port) : Type 0 where
  pub peer : new.peer ≡ old.peer
  pub out : new.put ++ new.outbox ≡ old.put ++ old.outbox
  pub more : List Stamped
  pub taken : new.taken ≡ old.taken ++ more
  pub slot : new.slot ≡ old.slot ++ more

-- or a port comes, towards the node that dialed, which isn't this one
pub record Comes (own : Name) (trunk : TrunkId) (new : Port) : Type 0 where
  pub other : trunk.dialer ≢ own
  pub peer : new.peer ≡ trunk.dialer
  pub out : new.put ++ new.outbox ≡ []
  pub taken : new.taken ≡ []
  pub slot : new.slot ≡ []

abbrev pub Moves : Name → TrunkId → Option Port → Option Port → Type 0
Moves own trunk None None = Unit {0}
Moves own trunk None (Some new) = Comes own trunk new
Moves own trunk (Some old) None = ⊥
Moves own trunk (Some old) (Some new) = Shifts old new

pub record Rests (own : Name) (book next : Book) : Type 0 where
  pub node : next.node ≡ book.node
  pub last : next.last ≡ book.last
  pub history : next.history ≡ book.history
  pub ports : (trunk : TrunkId) → Moves own trunk (book.ports trunk) (next.ports trunk)

abbrev pub BooksRest : Type 0
BooksRest = (nodes : Nodes) (k : ℕ) (book next : Book) → Follows nodes k book → Rests (name_at nodes k) book next → Follows nodes k next

abbrev pub NewBooksFollow : Type 0
NewBooksFollow = (nodes : Nodes) (k : ℕ) → Follows nodes k (new_book (opened_at nodes k))

-- what the node dials next has no port yet
abbrev pub NextIsNew : Type 0
NextIsNew = (nodes : Nodes) (k : ℕ) (book : Book) → Follows nodes k book → CountsOwn book.node → book.ports (next_trunk book.node) ≡ None

-- ---- what an event brings about

abbrev pub effects_in : Outcome → List (Effect Item)
effects_in (Refuses why) = []
effects_in (Accepts said work) = work.effects

-- what is sent goes to the peer of a port
abbrev pub SentToPeers : Type 0
SentToPeers = (nodes : Nodes) (k : ℕ) (event : Event) (first : Option Item) (book : Book) (took : Option (Way × List Stamped))
    (stamp : ℕ) (next : Book)
    → k < length nodes → node_name event ≡ name_at nodes k → IsMet event first → CountsOwn book.node
    → Follows nodes k book → Enters nodes k event first book took stamp next
    → (trunk : TrunkId) (peer : Name) (item : Item)
    → Contains (effects_in (comes_to nodes k event first book)) (Effect.Sent (Some trunk) peer item)
    → IsTowards (next.ports trunk) peer
