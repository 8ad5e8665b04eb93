-- What moves at an outlet between two entries leaves the port that it stands for as a book's may be left.
use Rattle.std.specs.Prelude.{List}
use Rattle.dist_books.specs.Books.{Port}
use Rattle.dist_books.specs.Growing.{Shifts}
use Rattle.erl_names.specs.declared.trunk.TrunkId.{TrunkId}
use Rattle.node_history.specs.declared.entry.Entry.{Entry}
use Rattle.node_lock.specs.Standing.{Feeds}
use Rattle.node_lock.specs.declared.outlet.Outlet.{Outlet}

-- the port that an outlet stands for afterwards
pub record FeedsShifted (t : TrunkId) (es : List Entry) (o : Outlet) (p : Port) : Type 0 where
  pub next : Port
  pub feeds : Feeds t es o next
  pub shifts : Shifts p next

-- whatever port the outlet stood for
abbrev pub KeepsFeeding : List Entry → (old new : Outlet) → Type 0
KeepsFeeding es old new = (t : TrunkId) (p : Port) → Feeds t es old p → FeedsShifted t es new p

-- it stands for some port
abbrev pub Fed : List Entry → Outlet → Type 0
Fed es o = (t : TrunkId) × (p : Port) × Feeds t es o p
