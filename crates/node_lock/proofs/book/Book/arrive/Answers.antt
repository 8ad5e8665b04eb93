use Rattle.std.proofs.Common.{subst, sym}
use Rattle.node_lock.specs.Standing.{AreApart}
use Rattle.node_lock.proofs.BookedCalls.{arrive_applies, arrive_kept, arrive_unapplied, nowhere_unapplied}
use Rattle.node_lock.proofs.book.Book.arrive.Goals as goal

pub invariant_of-self : goal.invariant_of-self
invariant_of-self c =
    let b = c.self.inside in arrive_kept b.names.items b.place b.setup b.greatest.bytes b.history c.take.new.history
    b.outlets.items c.args.trunk c.args.word c.in-Some.at c.index_mut.result.now c.take.new.outlet
    c.deref.result.now c.deref.ensures.value c.in-Some.ensures c.index_mut.ensures.value c.books_grow.ensures.grow
    c.take.result c.take.ensures.ok c.take.ensures.err c.self.invariant

pub returns-in-Some-clause-ok : goal.returns-in-Some-clause-ok
returns-in-Some-clause-ok c =
    let b = c.self.inside in rw (← c.self.view_is) (arrive_applies b.names.items b.place b.setup b.greatest.bytes b.history
    c.take.new.history b.outlets.items c.args.trunk c.args.word c.in-Some.at c.index_mut.result.now c.take.new.outlet
    c.deref.result.now c.deref.ensures.value c.in-Some.ensures c.index_mut.ensures.value c.take.result c.take.ensures.ok)

pub returns-in-Some-clause-err : goal.returns-in-Some-clause-err
returns-in-Some-clause-err c =
    let b = c.self.inside in rw (← c.self.view_is) (arrive_unapplied b.names.items b.place b.setup b.greatest.bytes b.history
    c.take.new.history b.outlets.items c.args.trunk c.args.word c.in-Some.at c.index_mut.result.now c.take.new.outlet
    c.deref.result.now c.deref.ensures.value c.in-Some.ensures c.index_mut.ensures.value c.take.result c.take.ensures.err)

pub returns-in-None-clause-err : goal.returns-in-None-clause-err
returns-in-None-clause-err c =
    let b = c.self.inside in
    rw (← c.self.view_is) (nowhere_unapplied b.names.items b.place b.setup b.greatest.bytes b.history b.outlets.items
    c.deref.result.now c.args.trunk c.args.word c.deref.ensures.value c.in-None.ensures)

pub place_near-requires : goal.place_near-requires
place_near-requires c = subst AreApart (sym c.deref.ensures.value) c.self.invariant.2
