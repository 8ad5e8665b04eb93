use Rattle.dist_books.proofs.OneRun.{books_are_a_run, books_are_safe}
use Rattle.dist_books.proofs.Sorted.{sorts_merge}
use Rattle.dist_books.proofs.laws.books_are_a_run.Goals as goal

pub returns-clause-run : goal.returns-clause-run
returns-clause-run c = books_are_a_run c.event_is_local.ensures.local c.node_keeps_its_bearings.ensures.kept

pub returns-clause-safe : goal.returns-clause-safe
returns-clause-safe c =
    books_are_safe c.event_is_local.ensures.local c.node_keeps_its_bearings.ensures.kept c.every_run_is_safe.ensures.safe

pub returns-clause-sort : goal.returns-clause-sort
returns-clause-sort c = sorts_merge
