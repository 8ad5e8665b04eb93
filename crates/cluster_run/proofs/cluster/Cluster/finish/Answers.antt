use Rattle.std.proofs.Common.{◌≡◌, ◌∙◌, Err, Ok, Result, refl, sym}
use Rattle.cluster_run.proofs.Merged.{finished_in}
use Rattle.cluster_run.proofs.cluster.Cluster.finish.Goals.{in-Err, in-Ok}
use Rattle.joined_books.specs.declared.error.FinishError.{FinishError}
use Rattle.joined_books.specs.declared.trace.Trace.{Trace}
use Rattle.cluster_run.proofs.cluster.Cluster.finish.Goals as goal

no_trace : (e : FinishError) (trace : Trace) {A : Type 0} → Err e ≡ (let merged : Result Trace FinishError = Ok trace in merged) → A
no_trace e trace h = cc

pub returns-in-Ok-merged-clause-ok : goal.returns-in-Ok-merged-clause-ok
returns-in-Ok-merged-clause-ok g c =
    let trace = c.in-Ok-merged.trace in
    elim c.match-take_books.branch [
      | in-Ok w ↦
          finished_in trace.entries.items c.args.self.nodes.items c.halt-nodes.result.0.items w.deref.result.now
          c.take_books.new.books.items w.deref-in-Ok.result.now c.args.seats.items w.deref-in-Ok-2.result.now
          c.halt-nodes.ensures.nodes w.deref.ensures.value w.deref-in-Ok.ensures.value w.deref-in-Ok-2.ensures.value
          w.merge_books-merged.result trace (sym w.merged-is ∙ c.in-Ok-merged.is) refl
          w.merge_books-merged.ensures.trace w.merge_books-merged.ensures.run w.merge_books-merged.ensures.receipts
      | in-Err w ↦ no_trace FinishError.OutOfMemory trace (sym w.merged-is ∙ c.in-Ok-merged.is)
    ]
