-- The book of dist_books that a node's book stands for: the same node, the same history, and the same
-- ports. The outbox of each port holds also the frames that the history has sent and that aren't put yet.
use Rattle.std.specs.Prelude.{◌≡◌, ℕ, ◌<◌, Option, None, Some, List, [], ◌∷◌, ◌++◌, length, slice_index_or, if◌then◌else◌}
use Rattle.std.specs.Ordering.{eq_by_cmp}
use Rattle.dist_books.specs.Acting.{Nodes, name_at, names_of}
use Rattle.dist_books.specs.Books.{Book, Port, Stamped}
use Rattle.dist_books.specs.Growing.{Follows}
use Rattle.dist_model.specs.Names.{Name}
use Rattle.dist_model.specs.World.{Event, Report}
use Rattle.erl_names.specs.Order.{trunk_cmp}
use Rattle.erl_names.specs.declared.trunk.TrunkId.{TrunkId}
use Rattle.dist_books.specs.Logs as merging
use Rattle.node_core.specs.Model.{model_of}
use Rattle.node_history.specs.declared.entry.Entry.{Entry}
use Rattle.node_history.specs.declared.history.History.{History}
use Rattle.node_lock.specs.Waiting.{AreFramesOf, IsPlace, waiting}
use Rattle.node_lock.specs.declared.outlet.Outlet.{Outlet}
use Rattle.wire_core.specs.Standing.{StandsFor}
use Rattle.node_core.specs.Told.{Tells}
use Rattle.node_core.specs.NodeEvents.{event_at}
use Rattle.dist_books.specs.Acting.{nowhere}
use Rattle.erl_handshake.specs.declared.setup.Setup.{Setup}

-- ---- the entries

pub record TellsEntry (own : Name) (entry : Entry) (of : merging.Entry Event Report) : Type 0 where
  pub stamp : of.stamp ≡ entry.stamp
  pub event : of.event ≡ event_at own entry.event
  pub answer : Tells entry.answer of.answer

abbrev pub TellEntries : Name → List Entry → List (merging.Entry Event Report) → Type 0
TellEntries own [] [] = Unit {0}
TellEntries own (entry ∷ entries) (of ∷ rest) = TellsEntry own entry of × TellEntries own entries rest
TellEntries own _ _ = ⊥

-- ---- the ports

abbrev pub outlet_of : TrunkId → List Outlet → Option Outlet
outlet_of trunk [] = None
outlet_of trunk (outlet ∷ rest) = if eq_by_cmp trunk_cmp trunk outlet.port.trunk then Some outlet else outlet_of trunk rest

-- no two are of one connection
abbrev pub AreApart : List Outlet → Type 0
AreApart [] = Unit {0}
AreApart (outlet ∷ rest) = (outlet_of outlet.port.trunk rest ≡ None) × AreApart rest

-- a port whose outbox the history feeds: the outbox of the staged port, and then the frames sent since
pub record Feeds (trunk : TrunkId) (entries : List Entry) (outlet : Outlet) (port : Port) : Type 0 where
  pub staged : Port
  pub rest : List Stamped
  pub port_is : port ≡ record staged { outbox = staged.outbox ++ rest }
  pub stands : StandsFor outlet.port staged
  pub trunk_is : outlet.port.trunk ≡ trunk
  pub to_come : AreFramesOf (waiting (trunk, outlet.port.peer) outlet.entry outlet.effects entries) rest
  pub place : IsPlace outlet.entry outlet.effects entries

abbrev pub FeedsAt : TrunkId → List Entry → Option Outlet → Option Port → Type 0
FeedsAt trunk entries None None = Unit {0}
FeedsAt trunk entries (Some outlet) (Some port) = Feeds trunk entries outlet port
FeedsAt trunk entries _ _ = ⊥

-- ---- the book

pub record IsBookOf (own : Name) (history : History) (outlets : List Outlet) (book : Book) : Type 0 where
  pub node : book.node ≡ model_of history.node
  pub last : book.last ≡ history.last
  pub entries : TellEntries own history.entries.items book.history
  pub ports : (trunk : TrunkId) → FeedsAt trunk history.entries.items (outlet_of trunk outlets) (book.ports trunk)

-- nodes of these names, among which the one at that place has this setup
pub record AreNodes (names : List Name) (place : ℕ) (setup : Setup) (nodes : Nodes) : Type 0 where
  pub named : names_of nodes ≡ names
  pub secret : (slice_index_or nodes place nowhere).1 ≡ setup

-- it stands for a book of which all holds that a thread keeps: a log replays it from the new node
pub record HasBook (place : ℕ) (history : History) (outlets : List Outlet) (nodes : Nodes) : Type 0 where
  pub book : Book
  pub is : IsBookOf (name_at nodes place) history outlets book
  pub follows : Follows nodes place book

abbrev pub IsBook : (names : List Name) (place : ℕ) (setup : Setup) → History → List Outlet → Type 0
IsBook names place setup history outlets =
    (place < length names) × ((nodes : Nodes) → AreNodes names place setup nodes → HasBook place history outlets nodes) × AreApart outlets
