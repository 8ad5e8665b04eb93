use Rattle.std.proofs.Common.{ap, unwrap_or}
use Rattle.std.specs.FinMap as map
use Rattle.link_core.specs.declared.end.End.TheVariants as End
use Rattle.erl_term.specs.Order.{pid_cmp}
use Rattle.link_core.proofs.Maps.{end_of_this, end_of_other}
use Rattle.link_core.proofs.laws.end_by_partner.Goals as goal

pub returns-clause-none : goal.returns-clause-none
returns-clause-none c = λ p. ap (λ o. unwrap_or o End.None) (map.get-empty pid_cmp p)

pub returns-clause-this : goal.returns-clause-this
returns-clause-this c = end_of_this

pub returns-clause-others : goal.returns-clause-others
returns-clause-others c = end_of_other
