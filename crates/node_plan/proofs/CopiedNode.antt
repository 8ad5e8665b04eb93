-- What a node's parts stand for, where others stand for the same.
use Rattle.std.proofs.Common.{◌≡◌, ℕ, List, map}
use Rattle.erl_control.specs.declared.signal.Signal.{Signal}
use Rattle.erl_handshake.specs.declared.identity.Identity.{Identity}
use Rattle.monitor_core.specs.Monitors.{Held}
use Rattle.monitor_core.specs.declared.monitor.Registration.{Registration}
use Rattle.monitor_core.specs.declared.monitor.Watch.{Watch}
use Rattle.node_tables.specs.Held.{ends, lives}
use Rattle.node_tables.specs.Registered.{names}
use Rattle.node_tables.specs.Sides.{sides}
use Rattle.node_tables.specs.declared.incarnation.Incarnation.{Incarnation}
use Rattle.node_tables.specs.declared.names.Names.{Names}
use Rattle.node_tables.specs.declared.sides.Sides.{Sides}
use Rattle.node_plan.specs.OwnList.{own_item}
use Rattle.node_plan.specs.SeenOf.{seen_of}

module _ (it jt : Incarnation) (named other : Names) (own again : Identity) (dialed : ℕ) (watches more : Held Watch)
    (watchers others : Held Registration) (held kept : Sides) (local rest : List Signal) where
  pub same_seen : jt.mint ≡ it.mint → jt.up ≡ it.up → lives jt ≡ lives it → ends jt ≡ ends it → names other ≡ names named → again ≡ own
      → more.monitors ≡ watches.monitors → others.monitors ≡ watchers.monitors → sides kept ≡ sides held → rest ≡ local
      → seen_of jt other again dialed more others kept rest ≡ seen_of it named own dialed watches watchers held local
  same_seen mint up living linked naming who owned registered connected own_signals = λ i. record {
    mint = mint i;
    cookie = (who i).cookie;
    flags = (who i).flags;
    up = up i;
    dialed = dialed;
    lives = living i;
    names = naming i;
    ends = linked i;
    watches = owned i;
    registered = registered i;
    sides = connected i;
    local = map own_item (own_signals i);
  }
