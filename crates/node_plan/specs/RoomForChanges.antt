-- Reserved memory for changes.
use Rattle.std.specs.Prelude.{◌≡◌, ◌≤◌, ◌-◌, ◌^◌, ◌<◌, true, Option}
use Rattle.monitor_core.specs.Monitors.{Held}
use Rattle.node_tables.specs.Held.{HasRoom, held}
use Rattle.node_tables.specs.Registered as table
use Rattle.node_tables.specs.Room.{LinkFits, MessageFits}
use Rattle.node_tables.specs.declared.incarnation.Incarnation.{Incarnation}
use Rattle.node_tables.specs.declared.life.Life.{Life}
use Rattle.node_tables.specs.declared.names.Names.{Names}
use Rattle.node_plan.specs.declared.change.Change.{Change}
use Rattle.node_plan.specs.declared.change.Change.TheVariants as change
use Rattle.node_plan.specs.declared.change.LifeChange.{LifeChange}
use Rattle.node_plan.specs.declared.change.LifeChange.TheVariants as life
use Rattle.node_plan.specs.declared.change.LinkChange.{LinkChange}
use Rattle.node_plan.specs.declared.change.LinkChange.TheVariants as link
use Rattle.node_plan.specs.declared.change.MonitorChange.{MonitorChange}
use Rattle.node_plan.specs.declared.change.MonitorChange.TheVariants as monitor

abbrev pub EndFits : LinkChange → Option Life → Type 0
EndFits link.Stays was = Unit {0}
EndFits (link.Becomes q how) was = LinkFits how was

abbrev pub LifeFits : LifeChange → Option Life → Type 0
LifeFits (life.Gets message) was = MessageFits was
LifeFits _ was = Unit {0}

abbrev pub ChangeFits : Change → Incarnation → Type 0
ChangeFits change.None it = Unit {0}
ChangeFits change.Spawns it = HasRoom it × (it.up ≡ true) × (it.mint.pids < 2 ^ 32 - 1)
ChangeFits (change.TakesName naming) it = Unit {0}
ChangeFits (change.GivesName p) it = Unit {0}
ChangeFits (change.Of p e l) it = EndFits e (held it p) × LifeFits l (held it p)

abbrev pub NameFits : Change → Names → Type 0
NameFits (change.TakesName naming) names = table.HasRoom names
NameFits _ names = Unit {0}

abbrev pub MonitorFits : {M : Type 0} → MonitorChange M → Held M → Type 0
MonitorFits (monitor.Adds r m) monitors = 1 ≤ monitors.room
MonitorFits _ monitors = Unit {0}
