use Rattle.std.proofs.Common.{ap, sym, ◌∙◌}
use Rattle.dist_model.specs.Dialing.{has_name}
use Rattle.node_lock.proofs.BookedCalls.{dial_kept}
use Rattle.node_lock.proofs.EntryPlaces.{err_of_placed, ok_of_placed}
use Rattle.node_history.specs.Telling.{placed}
use Rattle.node_lock.proofs.book.Book.dial.Goals as goal

pub invariant_of-self : goal.invariant_of-self
invariant_of-self c =
    let b = c.self.inside in
    let e = c.dial.ensures in
    dial_kept c.books_grow.ensures.grow c.books_grow.ensures.next b.greatest.bytes b.names.items b.place b.setup b.history
    c.dial.new.history b.outlets.items c.dial.new.outlets.items
    c.has_name-is_known.result c.args.peer c.args.word c.args.above (placed c.dial.result)
    (ap (λ l. has_name c.args.peer l) (sym c.deref.ensures.value) ∙ sym c.has_name-is_known.ensures) (ok_of_placed c.dial.result _ e.ok)
    (err_of_placed c.dial.result _ e.history) (err_of_placed c.dial.result _ e.outlets) c.self.invariant
