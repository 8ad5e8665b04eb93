use Rattle.std.proofs.Common.{ap, sym}
use Rattle.std.specs.Prelude.{unwrap_or}
use Rattle.std.specs.FinMap as fm
use Rattle.erl_term.specs.Order.{pid_cmp}
use Rattle.link_core.specs.declared.end.End.{End}
use Rattle.node_tables.proofs.life.Life.end.Goals as goal

pub returns-in-Ended : goal.returns-in-Ended
returns-in-Ended c = rw c.in-Ended.is (sym (ap (λ o. unwrap_or o End.None) (fm.get-empty pid_cmp c.args.partner.now)))
