use Rattle.std.proofs.Common.{ap, ◌∙◌, [], length}
use Rattle.std.specs.FinMap as fm
use Rattle.erl_names.specs.Order.{name_cmp}
use Rattle.node_tables.proofs.names.Names.new.Goals as goal

pub returns : goal.returns
returns c = rw c.new.ensures (fm.empty_of_len _ (fm.len-entries _ ∙ ap length (fm.entries-from_sorted name_cmp [] tt)))
