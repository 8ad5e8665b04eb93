use Rattle.std.proofs.Common.{Bool, List, Option, length, subst, sym, ℕ}
use Rattle.std.specs.Option.{MatchOption}
use borrow.Author.Count.{below_more}
use Rattle.joined_books.proofs.SeatReceipts.{entries_are}
use Rattle.joined_books.specs.Marks.{AreMarked, IsStrange}
use Rattle.joined_books.specs.Receipts.{AreEnteredApart, IsEnteredIn, position_of, receipts_of}
use Rattle.node_history.specs.declared.entry.Entry.{Entry}
use Rattle.joined_books.proofs.receipts.check_nodes.Goals as goal

pub loop-node-preserved : goal.loop-node-preserved
loop-node-preserved c =
    let books = c.args.books.now in
    let node = c.loop-node.node in
    let entries = c.entries.result.now in
    let receipts = receipts_of node c.args.seats.now in
    let P : List Entry → Type 0 = λ l. (marks : List Bool) × AreMarked position_of (IsEnteredIn l) (length l) marks receipts in
    let Q : Option ℕ → Type 0 = λ o. MatchOption o (P entries) (IsStrange position_of (IsEnteredIn entries) receipts) in
    let here : P entries = subst Q c.in-None.is c.in_ok-position.ensures in
    below_more (AreEnteredApart books c.args.seats.now) node c.loop-node.invariant
    (subst P (sym (entries_are books node c.index-books-node.result c.loop-node-test.true c.index-books-node.is))
    (subst P c.entries.ensures here))
