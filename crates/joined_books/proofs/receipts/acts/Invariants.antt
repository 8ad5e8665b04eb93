use Rattle.std.proofs.Common.{◌≡◌, ◌≤◌, take}
use Rattle.std.specs.List.{count_by}
use Rattle.node_history.specs.Acts.{is_act}
use Rattle.joined_books.proofs.receipts.acts.Given as goal

abbrev pub invariant-loop-entry : goal.invariant-loop-entry
invariant-loop-entry l = (l.found ≡ count_by (λ entry. is_act entry.event) (take l.entry-index l.entries)) × (l.found ≤ l.entry-index)
