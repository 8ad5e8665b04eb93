-- Whether a link is gone by what is planned.
use Rattle.std.specs.Prelude.{Bool, false}
use Rattle.dist_model.specs.Names.{same_pid}
use Rattle.erl_term.specs.declared.term.Pid.{Pid}
use Rattle.node_plan.specs.declared.change.LinkChange.{LinkChange}
use Rattle.node_plan.specs.declared.change.LinkChange.TheVariants as link
use Rattle.node_tables.specs.declared.end_change.EndChange.TheVariants as end

-- whether the link to this partner is gone
abbrev pub is_gone : LinkChange → Pid → Bool
is_gone (link.Becomes q end.Exits) other = same_pid other q
is_gone _ other = false
