-- Where a process may still change, only an end of it is planned to.
use Rattle.std.proofs.Common.{◌≡◌, arith}
use Rattle.std.specs.FinMap.{FinMap}
use Rattle.dist_model.specs.Names.{pair_cmp}
use Rattle.dist_model.specs.Node.{Life}
use Rattle.erl_names.specs.Minted.{Minted}
use Rattle.erl_term.specs.Order.{pid_cmp}
use Rattle.erl_term.specs.declared.term.Pid.{Pid}
use Rattle.link_core.specs.declared.end.End.{End}
use Rattle.monitor_core.specs.Monitors.{RegistrationMap, WatchMap}
use Rattle.node_plan.specs.Carried.{IsFree}
use Rattle.node_plan.specs.Parts.{link_in}
use Rattle.node_plan.specs.Changed.{end_after, ends_after, lives_after, watchers_left, watches_left}
use Rattle.node_plan.specs.declared.change.Change.{Change}

pub lives_free : (c : Change) (p : Pid) (m : Minted) (lives : FinMap pid_cmp Life) → IsFree c p → lives_after c m lives ≡ lives
lives_free c p m lives f = grind arith

pub ends_free : (c : Change) (p : Pid) (ends : FinMap pair_cmp End) → IsFree c p → ends_after c ends ≡ end_after (link_in c) p ends
ends_free c p ends f = grind arith

pub watches_free : (c : Change) (p : Pid) (watches : WatchMap) → IsFree c p → watches_left c watches ≡ watches
watches_free c p watches f = grind arith

pub watchers_free : (c : Change) (p : Pid) (watchers : RegistrationMap) → IsFree c p → watchers_left c watchers ≡ watchers
watchers_free c p watchers f = grind arith
