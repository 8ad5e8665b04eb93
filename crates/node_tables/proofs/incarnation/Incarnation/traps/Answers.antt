use Rattle.std.proofs.Common.{sym, ap, ◌∙◌}
use Rattle.dist_model.specs.Node.{traps_life}
use Rattle.node_tables.proofs.incarnation.Incarnation.traps.Goals as goal

pub returns-in-Some : goal.returns-in-Some
returns-in-Some c = c.traps.ensures ∙ sym (ap traps_life c.in-Some.ensures.life)

pub returns-in-None : goal.returns-in-None
returns-in-None c = sym (ap traps_life c.in-None.ensures.life)
