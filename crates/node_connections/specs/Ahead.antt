-- The progress of a sweep: no link to its peer is left before it.
use Rattle.std.specs.Prelude.{◌≡◌, ◌≤◌, ℕ, false, Option, None, Some}
use Rattle.std.specs.FinMap as fm
use Rattle.std.specs.FinMap.{FinMap}
use Rattle.std.specs.declared.cmp.Ordering.TheVariants.{Less}
use Rattle.dist_model.specs.Names.{Name, pair_cmp, same_name}
use Rattle.dist_model.specs.Node.{Node}
use Rattle.erl_term.specs.declared.term.Pid.{Pid}
use Rattle.erl_term.specs.declared.term.Reference.{Reference}
use Rattle.link_core.specs.declared.end.End.{End}
use Rattle.monitor_core.specs.Monitors.{RegistrationMap, WatchMap, target_node}
use Rattle.erl_term.specs.Order.{reference_cmp}
use Rattle.monitor_core.specs.declared.monitor.Registration.{Registration}
use Rattle.monitor_core.specs.declared.monitor.Watch.{Watch}
use Rattle.node_connections.specs.declared.sweeping.Sweeping.{Sweeping}

-- a reference that is less than the bound
abbrev pub IsBefore : Reference → Option Reference → Type 0
IsBefore r None = ⊥
IsBefore r (Some bound) = reference_cmp r bound ≡ Less

-- no process up to this id is linked to one at the peer
abbrev pub NoneLinkedUpTo : Name → ℕ → FinMap pair_cmp End → Type 0
NoneLinkedUpTo peer id ends = (p q : Pid) (e : End) → fm.get ends (p, q) ≡ Some e → p.id ≤ id → same_name q.node peer ≡ false

-- no monitor under a lesser reference is of a process at the peer
abbrev pub NoneWatchedBefore : Name → Option Reference → WatchMap → Type 0
NoneWatchedBefore peer bound monitors =
    (r : Reference) (w : Watch) → fm.get monitors r ≡ Some w → IsBefore r bound → same_name (target_node w.target) peer ≡ false

-- and none is owned by one
abbrev pub NoneOwnedBefore : Name → Option Reference → RegistrationMap → Type 0
NoneOwnedBefore peer bound monitors =
    (r : Reference) (w : Registration) → fm.get monitors r ≡ Some w → IsBefore r bound → same_name w.owner.node peer ≡ false

-- no link to the sweep's peer is left up to its id
abbrev pub IsAhead : Sweeping → Node → Type 0
IsAhead s m = (peer : Name) → s.peer ≡ Some peer → NoneLinkedUpTo peer s.id m.ends

-- at the first record
pub record Begins (s : Sweeping) : Type 0 where
  pub id : s.id ≡ 0
