-- What the books have, each at its place.
use Rattle.std.specs.Prelude.{ℕ, List, [], map, slice_index_or}
use Rattle.node_lock.specs.Seen.{BookSeen}
use Rattle.node_history.specs.declared.entry.Entry.{Entry}

-- of something that each book has: that of this one, or nothing where there is no such book
abbrev pub part_at : {X : Type 0} → (BookSeen → List X) → List BookSeen → ℕ → List X
part_at part books k = slice_index_or (map part books) k []

-- the entries of a node
abbrev pub entries_at : List BookSeen → ℕ → List Entry
entries_at books node = part_at (λ book. book.history.entries.items) books node

abbrev pub stamps_in : List Entry → List ℕ
stamps_in entries = map (λ entry. entry.stamp) entries

abbrev pub stamps_of : BookSeen → List ℕ
stamps_of book = stamps_in book.history.entries.items
