use Rattle.std.proofs.lemmas.Result.{err_from_is_err_and}
use Rattle.joined_books.proofs.JoinedRun.{joined}
use Rattle.joined_books.proofs.merge.merge_books.Goals as goal

pub returns-in_err-check_names-clause-fault : goal.returns-in_err-check_names-clause-fault
returns-in_err-check_names-clause-fault c =
    let p = err_from_is_err_and c.from_residual.result c.from_residual.ensures.1 in
    rw (p.1, p.2) (c.in_err-check_names.ensures.err c.args.seats.now)

pub returns-in_err-check_wires-clause-fault : goal.returns-in_err-check_wires-clause-fault
returns-in_err-check_wires-clause-fault c =
    let p = err_from_is_err_and c.from_residual-in_err-check_wires.result c.from_residual-in_err-check_wires.ensures.1 in
    rw (p.1, p.2) (c.in_err-check_wires.ensures.err c.args.nodes.now c.args.seats.now c.in_ok-check_names.ensures.ok)

pub returns-clause-trace : goal.returns-clause-trace
returns-clause-trace c =
    (joined c.books_are_a_run.ensures.run c.books_are_a_run.ensures.safe c.bytes_tell_items.ensures c.args.nodes.now c.args.books.now
    c.in_ok-sorted.field-0.items c.all_replay.ensures
    c.in_ok-check_names.ensures.ok c.in_ok-check_wires.ensures.ok c.in_ok-sorted.ensures.all c.in_ok-sorted.ensures.order).trace

pub returns-clause-run : goal.returns-clause-run
returns-clause-run c =
    (joined c.books_are_a_run.ensures.run c.books_are_a_run.ensures.safe c.bytes_tell_items.ensures c.args.nodes.now c.args.books.now
    c.in_ok-sorted.field-0.items c.all_replay.ensures
    c.in_ok-check_names.ensures.ok c.in_ok-check_wires.ensures.ok c.in_ok-sorted.ensures.all c.in_ok-sorted.ensures.order).run

pub returns-in_err-check_receipts-clause-fault : goal.returns-in_err-check_receipts-clause-fault
returns-in_err-check_receipts-clause-fault c =
    let p = err_from_is_err_and c.from_residual-in_err-check_receipts.result c.from_residual-in_err-check_receipts.ensures.1 in
    rw (p.1, p.2) (c.in_err-check_receipts.ensures.err c.args.nodes.now c.in_ok-check_names.ensures.ok c.in_ok-check_wires.ensures.ok)
