use Rattle.std.proofs.Common.{sym, ap, ◌∙◌}
use Rattle.dist_model.specs.Node.{is_living_life}
use Rattle.node_tables.proofs.incarnation.Incarnation.is_living.Goals as goal

pub returns-in-Some : goal.returns-in-Some
returns-in-Some c = c.is_living.ensures ∙ sym (ap is_living_life c.in-Some.ensures.life)

pub returns-in-None : goal.returns-in-None
returns-in-None c = sym (ap is_living_life c.in-None.ensures.life)
