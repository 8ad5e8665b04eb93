-- The signals of a process that ends while its link to one partner is gone already.
use Rattle.std.specs.Prelude.{◌≡◌, true, if◌then◌else◌, List, []}
use Rattle.std.specs.List.{flat_map}
use Rattle.dist_model.specs.Exits.{exit_for}
use Rattle.dist_model.specs.Work.{Addressed}
use Rattle.erl_control.specs.Fits.{fits}
use Rattle.erl_term.specs.Data.{Data}
use Rattle.erl_term.specs.declared.term.Pid.{Pid}
use Rattle.exit_core.specs.declared.reaction.Reaction.{Reaction}
use Rattle.link_core.specs.declared.end.End.{End}
use Rattle.node_plan.specs.declared.change.LinkChange.{LinkChange}
use Rattle.node_plan.specs.declared.change.LinkChange.TheVariants as link
use Rattle.node_plan.specs.Gone.{is_gone}
use Rattle.node_tables.specs.declared.end_change.EndChange.TheVariants as end

-- nothing else is planned of the ends of a process than that a link is gone
abbrev pub OnlyExits : LinkChange → Type 0
OnlyExits link.Stays = Unit {0}
OnlyExits (link.Becomes q end.Exits) = Unit {0}
OnlyExits _ = ⊥

-- EXIT to a partner to which the link is active, unless it is gone
abbrev pub exit_to : LinkChange → Pid → Data → Pid → End → List Addressed
exit_to planned p reason q end = if is_gone planned q then [] else exit_for p reason q end

abbrev pub exits_to : LinkChange → Pid → Data → List (Pid × End) → List Addressed
exits_to planned p reason = flat_map (λ link. exit_to planned p reason link.0 link.1)

-- the reason of a process that ends fits a signal
abbrev pub FitsWhereEnds : Reaction → Type 0
FitsWhereEnds (Reaction.End reason) = fits reason ≡ true
FitsWhereEnds _ = Unit {0}
