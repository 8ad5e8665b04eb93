use Rattle.std.proofs.Common.{subst, sym}
use Rattle.node_lock.specs.Standing.{AreApart}
use Rattle.std.proofs.Common.{ap, inl, inr, refl}
use Rattle.node_lock.proofs.BookedCalls.{feeds_at, moved_kept}
use Rattle.node_lock.proofs.PutAtOutlet.{nowhere, ok_is, on_err, puts_at, still_at}
use Rattle.node_lock.specs.Seen.{BookSeen}
use Rattle.node_lock.proofs.book.Book.flush.Goals as goal

pub invariant_of-self : goal.invariant_of-self
invariant_of-self g c =
    let b = c.self.inside in moved_kept b.names.items b.place b.setup b.history b.outlets.items c.args.trunk.now c.in-Some.at
    c.index_mut.result.now c.flush.new.self c.entries.result.now
    c.deref.result.now c.deref.ensures.value c.in-Some.ensures c.index_mut.ensures.value c.entries.ensures c.self.invariant
    c.books_grow.ensures.rest c.flush.ensures.feeds

pub invariant_of-self-in-Some : goal.invariant_of-self-in-Some
invariant_of-self-in-Some g c =
    let b = c.self.inside in moved_kept b.names.items b.place b.setup b.history b.outlets.items c.args.trunk.now c.in-Some.at
    c.index_mut.result.now c.flush.new.self c.entries.result.now
    c.deref.result.now c.deref.ensures.value c.in-Some.ensures c.index_mut.ensures.value c.entries.ensures c.self.invariant
    c.books_grow.ensures.rest c.flush.ensures.feeds

pub flush-requires : goal.flush-requires
flush-requires g c =
    let b = c.self.inside in
    let old = c.index_mut.result.now in
    feeds_at b.names.items b.place b.setup b.history b.outlets.items c.args.trunk.now c.in-Some.at old old c.entries.result.now
    c.deref.result.now c.deref.ensures.value c.in-Some.ensures c.index_mut.ensures.value c.entries.ensures c.self.invariant

pub returns-in_ok-flush-in-Some-clause-puts : goal.returns-in_ok-flush-in-Some-clause-puts
returns-in_ok-flush-in-Some-clause-puts g c = let b = c.self.inside in
    inr (puts_at c.args.trunk.now c.args.self.now b.history b.outlets.items c.deref.result.now c.entries.result.now
    c.in-Some.at c.index_mut.result.now c.flush.new.self
    (ap (λ (s : BookSeen). s.history) c.self.view_is) (ap (λ (s : BookSeen). s.outlets) c.self.view_is) c.deref.ensures.value
    c.in-Some.ensures c.index_mut.ensures.value c.entries.ensures
    c.in_ok-flush-in-Some.field-0 c.in_ok-flush-in-Some.ensures.puts)

pub returns-in_ok-flush-in-Some-clause-still : goal.returns-in_ok-flush-in-Some-clause-still
returns-in_ok-flush-in-Some-clause-still g c = λ is. let b = c.self.inside in
    inr (still_at c.args.trunk.now c.args.self.now b.history b.outlets.items c.deref.result.now c.entries.result.now
    c.in-Some.at c.index_mut.result.now c.flush.new.self
    (ap (λ (s : BookSeen). s.history) c.self.view_is) (ap (λ (s : BookSeen). s.outlets) c.self.view_is) c.deref.ensures.value
    c.in-Some.ensures c.index_mut.ensures.value c.entries.ensures
    (c.in_ok-flush-in-Some.ensures.still (ok_is c.in_ok-flush-in-Some.field-0 0 is)))

pub returns-in_err-flush-in-Some-clause-err : goal.returns-in_err-flush-in-Some-clause-err
returns-in_err-flush-in-Some-clause-err g c = let b = c.self.inside in
    on_err c.from_residual.result (puts_at c.args.trunk.now c.args.self.now b.history b.outlets.items c.deref.result.now
    c.entries.result.now c.in-Some.at c.index_mut.result.now c.flush.new.self
    (ap (λ (s : BookSeen). s.history) c.self.view_is) (ap (λ (s : BookSeen). s.outlets) c.self.view_is) c.deref.ensures.value
    c.in-Some.ensures c.index_mut.ensures.value c.entries.ensures
    0 c.in_err-flush-in-Some.ensures.err)

pub returns-in-None-clause-puts : goal.returns-in-None-clause-puts
returns-in-None-clause-puts g c =
    inl (
      nowhere c.args.trunk.now c.args.self.now c.self.inside.outlets.items c.deref.result.now
          (ap (λ (s : BookSeen). s.outlets) c.self.view_is) c.deref.ensures.value c.in-None.ensures,
      refl,
      refl,
    )

pub returns-in-None-clause-still : goal.returns-in-None-clause-still
returns-in-None-clause-still g c = λ is.
    inl (nowhere c.args.trunk.now c.args.self.now c.self.inside.outlets.items c.deref.result.now
    (ap (λ (s : BookSeen). s.outlets) c.self.view_is) c.deref.ensures.value c.in-None.ensures)

pub place_near-requires : goal.place_near-requires
place_near-requires g c = subst AreApart (sym c.deref.ensures.value) c.self.invariant.2
