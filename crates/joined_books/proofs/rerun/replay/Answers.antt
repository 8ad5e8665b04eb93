use Rattle.std.proofs.Common.{arith, inl, inr, sym}
use Rattle.std.proofs.lemmas.Result.{err_from_is_err_and}
use Rattle.joined_books.proofs.Replayed.{begins, ends_at, goes_at, repeated, there_at}
use Rattle.joined_books.proofs.rerun.replay.Goals as goal

pub returns-in_err-world-clause-err : goal.returns-in_err-world-clause-err
returns-in_err-world-clause-err c = λ run.
    let p = err_from_is_err_and c.from_residual.result c.from_residual.ensures.1 in
    rw (p.1, p.2) (elim c.in_err-world.ensures.err [ inl h ↦ absurd (repeated c.args.nodes.now run.are.distinct h.1) | inr h ↦ h ])

pub loop-at-init : goal.loop-at-init
loop-at-init c =
    λ run. begins c.args.nodes.now c.args.books.now c.args.trace.now.entries.items run c.in_ok-world.world c.in_ok-world.ensures.ok

pub returns-in-None-clause-err : goal.returns-in-None-clause-err
returns-in-None-clause-err c = λ run.
    absurd (there_at c.args.nodes.now c.args.books.now c.args.trace.now.entries.items c.as_slice-entries.result.now
    c.as_slice-entries.ensures.value
    c.loop-at.at _ run.run.world c.loop-at.world c.loop-at-test.true (c.loop-at.invariant run)
    (sym c.in-None.ensures))

pub loop-at-preserved : goal.loop-at-preserved
loop-at-preserved c = λ run.
    goes_at c.args.nodes.now c.args.books.now c.args.trace.now.entries.items c.as_slice-entries.result.now c.as_slice-entries.ensures.value
    c.loop-at.at _ run.run.world c.loop-at.world c.loop-at-test.true c.happens.new.world c.in-Some.entry.now
    (sym c.in-Some.ensures) (c.loop-at.invariant run) c.in_ok-happens-in-Some.ensures.ok

pub returns-clause-ok : goal.returns-clause-ok
returns-clause-ok c = λ run.
    ends_at c.args.nodes.now c.args.books.now c.args.trace.now.entries.items c.as_slice-entries.result.now c.as_slice-entries.ensures.value
    c.loop-at.at (omega arith) run.run.world c.loop-at.world (c.loop-at.invariant run)
