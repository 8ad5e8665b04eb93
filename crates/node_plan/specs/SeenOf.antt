-- The node of the model that these parts of a node stand for.
use Rattle.std.specs.Prelude.{ℕ, List, map}
use Rattle.dist_model.specs.Node as model
use Rattle.erl_control.specs.declared.signal.Signal.{Signal}
use Rattle.erl_handshake.specs.declared.identity.Identity.{Identity}
use Rattle.monitor_core.specs.Monitors.{Held}
use Rattle.monitor_core.specs.declared.monitor.Registration.{Registration}
use Rattle.monitor_core.specs.declared.monitor.Watch.{Watch}
use Rattle.node_tables.specs.Sides.{sides}
use Rattle.node_tables.specs.declared.sides.Sides.{Sides}
use Rattle.node_tables.specs.Held.{ends, lives}
use Rattle.node_tables.specs.declared.incarnation.Incarnation.{Incarnation}
use Rattle.node_tables.specs.declared.names.Names.{Names}
use Rattle.node_tables.specs.Registered.{names}
use Rattle.node_plan.specs.OwnList.{own_item}

abbrev pub seen_of : Incarnation → Names → Identity → ℕ → (watches : Held Watch) → (watchers : Held Registration) → Sides → List Signal
    → model.Node
seen_of it named own dialed watches watchers held local = record {
  mint = it.mint;
  cookie = own.cookie;
  flags = own.flags;
  up = it.up;
  dialed = dialed;
  lives = lives it;
  names = names named;
  ends = ends it;
  watches = watches.monitors;
  registered = watchers.monitors;
  sides = sides held;
  local = map own_item local;
}
