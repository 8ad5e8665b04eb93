use Rattle.std.proofs.Common.{sym, ap, ◌∙◌}
use Rattle.std.specs.FinMap as fm
use Rattle.std.specs.Option.{option_copied}
use Rattle.sorted_map.proofs.Mapped.{first_of_all}
use Rattle.sorted_map.specs.Entries.{next}
use Rattle.erl_term.specs.Order.{pid_cmp}
use Rattle.node_tables.specs.Lives.{links_of}
use Rattle.node_tables.proofs.Lookups.{no_links}
use Rattle.node_tables.proofs.life.Life.next_link.Goals as goal

pub returns-in-Ended : goal.returns-in-Ended
returns-in-Ended c =
    sym (ap (next pid_cmp (option_copied c.args.behind)) (ap (λ l. fm.entries (links_of l)) c.in-Ended.is ∙ no_links))

pub returns-in-None : goal.returns-in-None
returns-in-None c =
    let entries = fm.entries c.in-Living.ends.ends in
    c.first.ensures ∙ sym (first_of_all entries) ∙ sym (ap (λ b. next pid_cmp (option_copied b) entries) c.in-None.is)
    ∙ sym (ap (λ l. next pid_cmp (option_copied c.args.behind) (fm.entries (links_of l))) c.in-Living.is)
