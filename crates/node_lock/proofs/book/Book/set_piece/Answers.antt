use Rattle.std.proofs.Common.{subst, sym}
use Rattle.node_lock.proofs.Pieces.{pieces_kept}
use Rattle.node_lock.specs.Standing.{IsBook}
use Rattle.node_lock.proofs.book.Book.set_piece.Goals as goal

pub invariant_of-self-2 : goal.invariant_of-self-2
invariant_of-self-2 c =
    let b = c.self.inside in
    subst (λ os. IsBook b.names.items b.place b.setup b.history os) (sym c.set_all.ensures)
    (pieces_kept c.args.greatest b.names.items b.place b.setup b.history b.outlets.items c.self.invariant)
