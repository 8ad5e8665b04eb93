-- The run of the model's world that the entries of joined books are.
use Rattle.std.specs.Prelude.{◌≡◌, ℕ, Some, List, ◌++◌, All, length, slice_get}
use Rattle.std.specs.List.{AllZip}
use Rattle.dist_books.specs.Acting.{Nodes, name_at}
use Rattle.dist_books.specs.Books.{Book, book_at}
use Rattle.dist_books.specs.Merged.{AreBooks, IsOneRun, IsSafeAt}
use Rattle.dist_books.specs.Merged as model
use Rattle.joined_books.specs.Each.{AllAt}
use Rattle.joined_books.specs.Parts.{entries_at, part_at, stamps_of}
use Rattle.joined_books.specs.Places.{IsOrdered}
use Rattle.joined_books.specs.declared.trace.Placed.{Placed}
use Rattle.node_lock.specs.Seen.{BookSeen}
use Rattle.node_lock.specs.Standing.{AreNodes, IsBook, IsBookOf, TellsEntry}
use Rattle.node_history.specs.declared.entry.Entry.{Entry}

-- the book of a node, of these names and its setup, and what the model keeps of it
pub record StandsFor (nodes : Nodes) (models : List Book) (k : ℕ) (book : BookSeen) : Type 0 where
  pub named : AreNodes book.names k book.setup nodes
  pub is : IsBookOf (name_at nodes k) book.history book.outlets (book_at models k)

-- the entry at a place, and the same in the model's run
pub record Shows (books : List BookSeen) (nodes : Nodes) (placed : Placed) (of : model.Placed) : Type 0 where
  pub node : of.0 ≡ placed.node
  pub entry : Entry
  pub there : slice_get (entries_at books placed.node) placed.position ≡ Some entry
  pub tells : TellsEntry (name_at nodes placed.node) entry of.1

-- they are one run of the world of these nodes, from its opening to the world of the books, and it is safe at each moment
pub record AreARun (nodes : Nodes) (books : List BookSeen) (entries : List Placed) : Type 0 where
  pub models : List Book
  pub merged : List model.Placed
  pub one_each : length nodes ≡ length books
  pub stand : AllAt (StandsFor nodes models) books
  pub are : AreBooks nodes models
  pub shown : AllZip (Shows books nodes) entries merged
  pub run : IsOneRun nodes models merged
  pub safe : (before behind : List model.Placed) → merged ≡ before ++ behind → IsSafeAt nodes before

-- all entries of all books, each once, by stamp and then by node
abbrev pub IsTrace : List BookSeen → List Placed → Type 0
IsTrace books entries = IsOrdered (part_at stamps_of books) entries

-- a log replays each book
abbrev pub Replays : BookSeen → Type 0
Replays book = IsBook book.names book.place book.setup book.history book.outlets

abbrev pub AllReplay : List BookSeen → Type 0
AllReplay books = All Replays books
