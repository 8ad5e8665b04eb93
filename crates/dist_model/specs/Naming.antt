-- Registered names: a name has at most one process, and a process at most one name.
-- (Reference Manual, Processes, Registered Processes.)
use Rattle.std.specs.Prelude.{◌≡◌, Bool, false, not, Option, None, Some}
use Rattle.std.specs.FinMap as fm
use Rattle.std.specs.FinMap.{FinMap}
use Rattle.dist_model.specs.Names.{Name, same_pid}
use Rattle.erl_names.specs.Order.{name_cmp}
use Rattle.erl_term.specs.declared.term.Pid.{Pid}
use Rattle.sorted_map.specs.Entries.{first_where}

-- the process that has each name
abbrev pub NameMap : Type 0
NameMap = FinMap name_cmp Pid

-- the name of a process, with the process
abbrev pub name_of : NameMap → Pid → Option (Name × Pid)
name_of names p = first_where (λ name q. same_pid q p) (fm.entries names)

abbrev pub is_held_by : Pid → Option Pid → Bool
is_held_by p None = false
is_held_by p (Some q) = same_pid q p

-- the names of others
abbrev pub without_holder : NameMap → Pid → NameMap
without_holder names p = fm.retain_keys names (λ name. not (is_held_by p (fm.get names name)))

-- no process has two names
abbrev pub IsOneToOne : NameMap → Type 0
IsOneToOne names = (name other : Name) (p : Pid) → fm.get names name ≡ Some p → fm.get names other ≡ Some p → name ≡ other
