use Rattle.std.proofs.Common.{drop}
use Rattle.joined_books.proofs.Replayed.{Going}
use Rattle.joined_books.specs.Joined.{AreARun}
use Rattle.joined_books.proofs.rerun.replay.Given as goal

abbrev pub invariant-loop-at : goal.invariant-loop-at
invariant-loop-at l = (run : AreARun l.nodes l.books l.trace.entries.items)
    → Going l.nodes l.books (drop l.at l.trace.entries.items) run.run.world l.world
