use Rattle.std.proofs.lemmas.Result.{IfOk-weaker, MatchResult-weaker, err_from_is_err_and}
use Rattle.joined_books.proofs.SeatReceipts.{all_stand, are_receipts}
use Rattle.joined_books.specs.Receipts.{AreReceipts}
use Rattle.joined_books.proofs.receipts.check_receipts.Goals as goal

pub returns-clause-ok : goal.returns-clause-ok
returns-clause-ok c =
    let books = c.args.books.now in
    let seats = c.args.seats.now in
    IfOk-weaker c.check_counts.result _ (λ _. AreReceipts books seats)
    (λ _ enough. are_receipts books seats c.in_ok-check_nodes.ensures.ok c.in_ok-check_seats.ensures.ok enough) c.check_counts.ensures.ok

pub returns-clause-err : goal.returns-clause-err
returns-clause-err c =
    let stand = all_stand c.args.books.now c.args.seats.now c.in_ok-check_nodes.ensures.ok c.in_ok-check_seats.ensures.ok in
    MatchResult-weaker c.check_counts.result c.check_counts.ensures.err (λ x h. h)
    (λ e fault nodes places whole. fault nodes places whole stand)

pub returns-in_err-check_seats-clause-err : goal.returns-in_err-check_seats-clause-err
returns-in_err-check_seats-clause-err c =
    let p = err_from_is_err_and c.from_residual-in_err-check_seats.result c.from_residual-in_err-check_seats.ensures.1 in
    rw (p.1, p.2) c.in_err-check_seats.ensures.err
