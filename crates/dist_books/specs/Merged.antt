-- The entries of all books, and the run that they are.
use Rattle.std.specs.Prelude.{◌≡◌, ◌⊎◌, ℕ, ◌<◌, Some, List, ◌++◌, [], AllPairs, IsPermutation, length, map}
use Rattle.dist_books.specs.Acting.{Nodes, Way, name_at}
use Rattle.dist_books.specs.Books.{AllKept, AreDistinct, Book, WiresAgree, book_at, on_the_way}
use Rattle.dist_model.specs.Runs.{Runs, opening}
use Rattle.dist_model.specs.Safety.{Safe}
use Rattle.dist_model.specs.Traces.{traced}
use Rattle.dist_model.specs.World.{Event, Report, World, list_to, node_of}
use Rattle.dist_books.specs.Logs.{Entry, bare}
use Rattle.dist_books.specs.Runs.{of_node}
use Rattle.dist_books.specs.Sorting.{IsInOrder, placed_from}

-- an entry with the number of its node
abbrev pub Placed : Type 0
Placed = ℕ × Entry Event Report

-- by stamp, and then by node
abbrev pub Precedes : Placed → Placed → Type 0
Precedes x y = (x.1.stamp < y.1.stamp) ⊎ ((x.1.stamp ≡ y.1.stamp) × (x.0 < y.0))

-- all entries, each book's in its order
pub record IsMerged (books : List Book) (merged : List Placed) : Type 0 where
  pub each : (k : ℕ) → of_node k merged ≡ (book_at books k).history
  pub sorted : AllPairs Precedes merged

-- all entries, book by book
abbrev pub entries_of : List Book → List Placed
entries_of books = placed_from 0 (map (λ book. book.history) books)

abbrev pub SortsMerge : Type 0
SortsMerge = (nodes : Nodes) (books : List Book) (merged : List Placed) → length books ≡ length nodes → AllKept nodes books
    → IsPermutation (entries_of books) merged → IsInOrder (λ entry. entry.stamp) merged → IsMerged books merged

abbrev pub events_of : List Placed → List Event
events_of merged = map (λ placed. placed.1.event) merged

abbrev pub reports_of : List Placed → List Report
reports_of merged = map (λ placed. placed.1.answer) merged

-- they lead from the opening world to one with the books' nodes, and on each way what was sent and not yet taken
pub record IsOneRun (nodes : Nodes) (books : List Book) (merged : List Placed) : Type 0 where
  pub world : World
  pub runs : Runs (opening nodes) (events_of merged) (reports_of merged) world
  pub nodes_are : (k : ℕ) → k < length nodes → node_of world.nodes (name_at nodes k) ≡ Some (book_at books k).node
  pub lists_are : (way : Way) → list_to world.lists way.0 way.1 ≡ bare (on_the_way nodes books way)

-- at each moment, the end among them, there is a world, and it is safe
pub record IsSafeAt (nodes : Nodes) (before : List Placed) : Type 0 where
  pub world : World
  pub runs : Runs (opening nodes) (events_of before) (reports_of before) world
  pub safe : Safe (traced (opening nodes) (events_of before) (reports_of before) []) world

-- books that replay, and whose wires agree
pub record AreBooks (nodes : Nodes) (books : List Book) : Type 0 where
  pub distinct : AreDistinct nodes
  pub one_each : length books ≡ length nodes
  pub kept : AllKept nodes books
  pub agree : WiresAgree nodes books

abbrev pub BooksAreARun : Type 0
BooksAreARun = (nodes : Nodes) (books : List Book) (merged : List Placed) → AreBooks nodes books → IsMerged books merged
    → IsOneRun nodes books merged

abbrev pub BooksAreSafe : Type 0
BooksAreSafe = (nodes : Nodes) (books : List Book) (merged : List Placed) → AreBooks nodes books → IsMerged books merged
    → (before behind : List Placed) → merged ≡ before ++ behind → IsSafeAt nodes before
