-- The monitors that are left once those of a process go. (Reference Manual, Processes, Monitors.)
use Rattle.std.specs.Prelude.{◌≡◌, Bool, true, false, not, Option, None, Some}
use Rattle.std.specs.Ordering.{eq_by_cmp}
use Rattle.std.specs.FinMap as map
use Rattle.erl_term.specs.Order.{pid_cmp}
use Rattle.erl_term.specs.declared.term.Pid.{Pid}
use Rattle.erl_term.specs.declared.term.Reference.{Reference}
use Rattle.monitor_core.specs.Monitors.{MonitorMap, WatchMap, RegistrationMap}
use Rattle.monitor_core.specs.declared.monitor.Registration.{Registration}
use Rattle.monitor_core.specs.declared.monitor.Watch.{Watch}

-- true if there is one, and it is found by this process
abbrev pub is_of : {M : Type 0} → (M → Pid) → Pid → Option M → Bool
is_of of process None = false
is_of of process (Some monitor) = eq_by_cmp pid_cmp (of monitor) process

-- the monitors left once those go that are found by a process
abbrev pub without : {M : Type 0} → (M → Pid) → MonitorMap M → Pid → MonitorMap M
without of monitors process = map.retain_keys monitors (λ reference. not (is_of of process (map.get monitors reference)))

abbrev pub is_owned : Pid → Option Watch → Bool
is_owned process None = false
is_owned process (Some watch) = eq_by_cmp pid_cmp watch.owner process

-- true if there is one, and it is bound to this process, whatever its target is
abbrev pub is_bound : Pid → Option Registration → Bool
is_bound process None = false
is_bound process (Some registration) = eq_by_cmp pid_cmp registration.held process

abbrev pub without_owner : WatchMap → Pid → WatchMap
without_owner watches process = map.retain_keys watches (λ reference. not (is_owned process (map.get watches reference)))

abbrev pub without_held : RegistrationMap → Pid → RegistrationMap
without_held registrations process =
    map.retain_keys registrations (λ reference. not (is_bound process (map.get registrations reference)))

-- the first entry, if there is one, goes, and true says that it did
abbrev pub IsFirstGone : {M : Type 0} → Option (Reference × M) → MonitorMap M → Bool → MonitorMap M → Type 0
IsFirstGone None old gone new = (gone ≡ false) × (new ≡ old)
IsFirstGone (Some entry) old gone new = (gone ≡ true) × (new ≡ map.remove old entry.0)
