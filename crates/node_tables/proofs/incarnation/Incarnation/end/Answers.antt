use Rattle.std.proofs.Common.{sym, ap, ◌∙◌}
use Rattle.std.specs.Prelude.{unwrap_or}
use Rattle.link_core.specs.declared.end.End.{End}
use Rattle.node_tables.proofs.incarnation.Incarnation.end.Goals as goal

pub returns-in-Some : goal.returns-in-Some
returns-in-Some c = c.end.ensures ∙ sym (ap (λ o. unwrap_or o End.None) (c.in-Some.ensures.ends c.args.partner.now))

pub returns-in-None : goal.returns-in-None
returns-in-None c = sym (ap (λ o. unwrap_or o End.None) (c.in-None.ensures.ends c.args.partner.now))
