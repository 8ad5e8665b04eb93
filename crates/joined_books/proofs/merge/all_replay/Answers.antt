use Rattle.std.proofs.Common.{arith}
use Rattle.joined_books.proofs.OneMore.{all_next}
use Rattle.joined_books.specs.Joined.{Replays}
use Rattle.joined_books.proofs.merge.all_replay.Goals as goal

pub loop-book-preserved : goal.loop-book-preserved
loop-book-preserved c = all_next Replays c.args.books.now c.loop-book.book-index c.book-item.result c.loop-book-test.true c.book-item.is
    c.loop-book.invariant c.replays.ensures

pub returns : goal.returns
returns c = λ k d below. c.loop-book.invariant k d (omega arith) (omega arith)
