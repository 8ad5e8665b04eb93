use Rattle.std.proofs.Common.{ap, ◌∙◌, [], length}
use Rattle.std.specs.FinMap as map
use Rattle.erl_term.specs.Order.{pid_cmp}
use Rattle.link_core.proofs.ends.Ends.new.Goals as goal

pub returns : goal.returns
returns c = rw c.new.ensures (map.empty_of_len _ (map.len-entries _ ∙ ap length (map.entries-from_sorted pid_cmp [] tt)))
