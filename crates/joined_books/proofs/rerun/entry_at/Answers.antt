use Rattle.std.proofs.Common.{◌≡◌, ◌∙◌, List, [], ap, arith, sym}
use Rattle.std.specs.List.{slice_get}
use Rattle.joined_books.proofs.SeatReceipts.{entries_are}
use Rattle.joined_books.proofs.Zipped.{part_beyond}
use Rattle.joined_books.specs.Parts.{entries_at}
use Rattle.node_lock.specs.Seen.{BookSeen}
use Rattle.node_history.specs.declared.entry.Entry.{Entry}
use Rattle.joined_books.proofs.rerun.entry_at.Goals as goal

pub returns-then-placed-books : goal.returns-then-placed-books
returns-then-placed-books c =
    let books = c.args.books.now in
    let node = c.args.placed.now.node in
    let none : entries_at books node ≡ [] = part_beyond (λ (b : BookSeen). b.history.entries.items) books node [] (omega arith) in
    sym (ap (λ (l : List Entry). slice_get l c.args.placed.now.position) none)

pub returns : goal.returns
returns c =
    let books = c.args.books.now in
    let node = c.args.placed.now.node in
    let at = c.args.placed.now.position in
    c.entry_of.ensures ∙ ap (λ (l : List Entry). slice_get l at) (c.entries.ensures
    ∙ sym (entries_are books node c.index-books-placed.result c.if-placed-books.false c.index-books-placed.is))
