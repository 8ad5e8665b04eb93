use Rattle.std.proofs.Common.{◌&&◌, sym, ap, ◌∙◌}
use Rattle.std.specs.FinMap as fm
use Rattle.std.specs.Ordering.{is_lt}
use Rattle.dist_model.specs.Names.{same_name}
use Rattle.dist_model.specs.Node.{first_where}
use Rattle.erl_term.specs.Order.{pid_cmp}
use Rattle.node_tables.proofs.Lookups.{no_links}
use Rattle.node_tables.specs.Lives.{links_of}
use Rattle.node_tables.proofs.life.Life.next_towards.Goals as goal

pub returns-in-Ended : goal.returns-in-Ended
returns-in-Ended c =
    sym (ap (first_where (λ held end. is_lt (pid_cmp c.args.partner.now held) && same_name held.node c.args.node.now))
    (ap (λ l. fm.entries (links_of l)) c.in-Ended.is ∙ no_links))
