-- The part of a change of the processes that is about an end.
use Rattle.node_plan.specs.declared.change.Change.{Change}
use Rattle.node_plan.specs.declared.change.Change.TheVariants as change
use Rattle.node_plan.specs.declared.change.LinkChange.{LinkChange}
use Rattle.node_plan.specs.declared.change.LinkChange.TheVariants as link

abbrev pub link_in : Change → LinkChange
link_in (change.Of p e l) = e
link_in _ = link.Stays
