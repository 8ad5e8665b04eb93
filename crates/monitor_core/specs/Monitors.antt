-- Monitors by reference.
use Rattle.std.specs.Prelude.{◌≡◌, ◌≢◌, ◌&&◌, if◌then◌else◌, ℕ, List, Bool, true, false, Option, None, Some, refl}
use Rattle.std.specs.Coded.{Coded, code_by, coded×, coded_ℕ}
use Rattle.std.specs.Cmp.Lexicographic.{slice_cmp}
use Rattle.std.specs.declared.cmp.Ordering.TheVariants.{Less}
use Rattle.std.specs.Option.{option_map}
use Rattle.std.specs.Ordering.{nat_cmp, eq_by_cmp}
use Rattle.std.specs.FinMap as map
use Rattle.erl_term.specs.declared.term.Pid.{Pid}
use Rattle.erl_term.specs.declared.term.Reference.{Reference}
use Rattle.erl_term.specs.Order.{pid_cmp, reference_cmp}
use Rattle.monitor_core.specs.declared.monitor.Registration.{Registration}
use Rattle.monitor_core.specs.declared.monitor.Target.{Target}
use Rattle.monitor_core.specs.declared.monitor.Watch.{Watch}

-- M is a watch or a registration
abbrev pub MonitorMap : Type 0 → Type 0
MonitorMap M = map.FinMap reference_cmp M

abbrev pub WatchMap : Type 0
WatchMap = MonitorMap Watch

abbrev pub RegistrationMap : Type 0
RegistrationMap = MonitorMap Registration

-- the monitors, and the number of references for which memory is reserved
pub record Held (M : Type 0) : Type 0 where
  pub monitors : MonitorMap M
  pub room : ℕ

abbrev pub HeldWatches : Type 0
HeldWatches = Held Watch

abbrev pub HeldRegistrations : Type 0
HeldRegistrations = Held Registration

abbrev pub held_code : {M : Type 0} → Coded Reference → Coded M → Coded (Held M)
held_code {M} reference monitor =
    code_by (MonitorMap M × ℕ) (coded× (map.code reference monitor) coded_ℕ) (λ k. (k.monitors, k.room))
    (λ p. record { monitors = p.0; room = p.1 }) (λ _. refl)

-- ---- targets

-- the name of the target's node
abbrev pub target_node : Target → List ℕ
target_node (Target.Pid pid) = pid.node
target_node (Target.Name name node) = node

-- true if the two are one pid, or one name on one node
abbrev pub same_target : Target → Target → Bool
same_target (Target.Pid pid) (Target.Pid other) = eq_by_cmp pid_cmp pid other
same_target (Target.Name name node) (Target.Name other at) =
    eq_by_cmp (slice_cmp nat_cmp) name other && eq_by_cmp (slice_cmp nat_cmp) node at
same_target _ _ = false

abbrev pub watch_of : Pid → Target → Watch
watch_of owner target = record { owner = owner; target = target }

-- the owner and the target of a watch
abbrev pub itself : Watch → Watch
itself watch = watch

-- the owner and the target of a registration, whichever process it holds
abbrev pub as_watch : Registration → Watch
as_watch registration = watch_of registration.owner registration.target

-- ---- the monitor of a reference

-- a reference that has a monitor keeps it
abbrev pub added : {M : Type 0} → MonitorMap M → Reference → M → MonitorMap M
added monitors reference monitor =
    if map.contains_key monitors reference then monitors else map.insert monitors reference monitor

-- true if there is one, and its owner and target are these
abbrev pub is_this : Option Watch → Watch → Bool
is_this None watch = false
is_this (Some held) watch = eq_by_cmp pid_cmp held.owner watch.owner && same_target held.target watch.target

-- true if the reference has a monitor, and its owner and target, which seen_as gives, are these
abbrev pub is_held : {M : Type 0} → (M → Watch) → MonitorMap M → Reference → Watch → Bool
is_held seen_as monitors reference watch = is_this (option_map seen_as (map.get monitors reference)) watch

-- of the monitors that pass, the one of the least reference
pub record IsLeast {M : Type 0} (monitors : MonitorMap M) (passes : M → Bool) (reference : Reference) (monitor : M) : Type 0 where
  pub held : map.get monitors reference ≡ Some monitor
  pub passing : passes monitor ≡ true
  pub least : (other : Reference) (its : M) → map.get monitors other ≡ Some its → passes its ≡ true
      → reference_cmp other reference ≢ Less

-- that one, or none where none passes
abbrev pub IsFirst : {M : Type 0} → MonitorMap M → (M → Bool) → Option (Reference × M) → Type 0
IsFirst {M} monitors passes None = (other : Reference) (its : M) → map.get monitors other ≡ Some its → passes its ≡ false
IsFirst monitors passes (Some entry) = IsLeast monitors passes entry.0 entry.1
