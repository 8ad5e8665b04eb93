use Rattle.std.proofs.Common.{refl}
use Rattle.node_lock.proofs.KeptByEvents.{happened}
use Rattle.node_lock.proofs.BookedCalls.{plainly, plainly_not}
use Rattle.node_core.specs.declared.node_event.NodeEvent.TheVariants as event
use Rattle.node_lock.proofs.book.Book.sweep.Goals as goal

pub invariant_of-self : goal.invariant_of-self
invariant_of-self c =
    let b = c.self.inside in
    happened c.books_grow.ensures.grow b.names.items b.place b.setup b.history c.sweep.new.self b.outlets.items event.Sweep 0
    c.sweep.result refl c.sweep.ensures c.self.invariant

pub returns-clause-ok : goal.returns-clause-ok
returns-clause-ok c =
    let b = c.self.inside in
    rw (← c.self.view_is) (plainly b.names.items b.place b.setup b.greatest.bytes b.history c.sweep.new.self b.outlets.items
    event.Sweep 0 refl c.sweep.result c.sweep.ensures)

pub returns-clause-err : goal.returns-clause-err
returns-clause-err c =
    let b = c.self.inside in
    rw (← c.self.view_is) (plainly_not b.names.items b.place b.setup b.greatest.bytes b.history c.sweep.new.self
    b.outlets.items event.Sweep 0 refl c.sweep.result c.sweep.ensures)
