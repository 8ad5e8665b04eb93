use Rattle.std.proofs.Common.{subst, sym}
use Rattle.node_lock.specs.Standing.{AreApart}
use Rattle.std.proofs.Common.{ap, true}
use Rattle.node_lock.proofs.BookedCalls.{moved_kept}
use Rattle.node_lock.proofs.PutAtOutlet.{moved_at, ok_is}
use Rattle.node_lock.specs.Passing.{Takes}
use Rattle.node_lock.specs.Seen.{BookSeen}
use Rattle.node_lock.proofs.book.Book.fetch.Goals as goal

pub invariant_of-self : goal.invariant_of-self
invariant_of-self g c =
    let b = c.self.inside in moved_kept b.names.items b.place b.setup b.history b.outlets.items c.args.trunk.now c.in-Some.at
    c.index_mut.result.now c.fetch.new.self c.entries.result.now
    c.deref.result.now c.deref.ensures.value c.in-Some.ensures c.index_mut.ensures.value c.entries.ensures c.self.invariant
    c.books_grow.ensures.rest c.fetch.ensures.feeds

pub invariant_of-self-in-Some : goal.invariant_of-self-in-Some
invariant_of-self-in-Some g c =
    let b = c.self.inside in moved_kept b.names.items b.place b.setup b.history b.outlets.items c.args.trunk.now c.in-Some.at
    c.index_mut.result.now c.fetch.new.self c.entries.result.now
    c.deref.result.now c.deref.ensures.value c.in-Some.ensures c.index_mut.ensures.value c.entries.ensures c.self.invariant
    c.books_grow.ensures.rest c.fetch.ensures.feeds

pub returns-in_ok-fetch-in-Some-clause-takes : goal.returns-in_ok-fetch-in-Some-clause-takes
returns-in_ok-fetch-in-Some-clause-takes g c = λ is. let b = c.self.inside in
    moved_at c.args.trunk.now c.args.self.now b.history b.outlets.items c.deref.result.now c.entries.result.now c.in-Some.at
    c.index_mut.result.now c.fetch.new.self
    (ap (λ (s : BookSeen). s.history) c.self.view_is) (ap (λ (s : BookSeen). s.outlets) c.self.view_is) c.deref.ensures.value
    c.in-Some.ensures c.index_mut.ensures.value c.entries.ensures
    Takes (c.in_ok-fetch-in-Some.ensures.takes (ok_is c.in_ok-fetch-in-Some.field-0 true is))

pub place_near-requires : goal.place_near-requires
place_near-requires g c = subst AreApart (sym c.deref.ensures.value) c.self.invariant.2
