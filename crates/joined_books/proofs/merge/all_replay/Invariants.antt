use Rattle.std.specs.List.{AllWithin}
use Rattle.joined_books.specs.Joined.{Replays}
use Rattle.joined_books.proofs.merge.all_replay.Given as goal

abbrev pub invariant-loop-book : goal.invariant-loop-book
invariant-loop-book l = AllWithin Replays l.books 0 l.book-index
