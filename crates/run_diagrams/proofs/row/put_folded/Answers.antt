use Rattle.run_diagrams.proofs.FoldedRows.{keeps_behind, keeps_where_alike, whatever_result}
use Rattle.run_diagrams.proofs.row.put_folded.Goals as goal

pub returns-then-ends_folded : goal.returns-then-ends_folded
returns-then-ends_folded c = whatever_result c.fold_into.result _
    (keeps_where_alike c.args.rows.now.items _ c.fold_into.new.row c.index_mut.result.now c.index_mut.ensures.value
    c.fold_into.ensures.took c.fold_into.ensures.marks c.fold_into.ensures.gave_up)

pub returns : goal.returns
returns c =
    keeps_behind c.args.rows.now.items c.push.new.self.items c.folded_row.result c.in_ok-push.ensures.items
    c.folded_row.ensures.took c.folded_row.ensures.marks c.folded_row.ensures.gave_up
