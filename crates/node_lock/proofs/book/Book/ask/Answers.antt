use Rattle.node_lock.proofs.KeptByEvents.{happened}
use Rattle.node_lock.proofs.BookedCalls.{plainly, plainly_not}
use Rattle.node_lock.proofs.EntryPlaces.{err_placed, known_plainly, ok_placed}
use Rattle.node_history.specs.Telling.{placed}
use Rattle.node_lock.proofs.book.Book.ask.Goals as goal

pub invariant_of-self : goal.invariant_of-self
invariant_of-self c =
    let b = c.self.inside in
    happened c.books_grow.ensures.grow b.names.items b.place b.setup b.history c.act.new.self b.outlets.items c.args.event c.args.above
    (placed c.act.result) c.requires.plain
    (known_plainly c.args.event c.args.above b.history c.act.new.self (placed c.act.result) c.requires.plain c.act.ensures.tries) c.self.invariant

pub returns-clause-ok : goal.returns-clause-ok
returns-clause-ok c =
    let b = c.self.inside in
    rw (← c.self.view_is) (ok_placed c.act.result _ (plainly b.names.items b.place b.setup b.greatest.bytes b.history
    c.act.new.self b.outlets.items c.args.event c.args.above c.requires.plain (placed c.act.result)
    (known_plainly c.args.event c.args.above b.history c.act.new.self (placed c.act.result) c.requires.plain c.act.ensures.tries)))

pub returns-clause-err : goal.returns-clause-err
returns-clause-err c =
    let b = c.self.inside in
    rw (← c.self.view_is) (err_placed c.act.result _ (plainly_not b.names.items b.place b.setup b.greatest.bytes b.history
    c.act.new.self b.outlets.items c.args.event c.args.above c.requires.plain (placed c.act.result)
    (known_plainly c.args.event c.args.above b.history c.act.new.self (placed c.act.result) c.requires.plain c.act.ensures.tries)))
