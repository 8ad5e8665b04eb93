-- The orders of slots, by their entries.
use Rattle.std.specs.Prelude.{ℕ, List, Option}
use Rattle.std.specs.declared.cmp.Ordering.{Ordering}
use Rattle.std.specs.declared.cmp.Ordering.TheVariants.{Equal}
use Rattle.std.specs.Ordering.{nat_cmp, ordering_then}
use Rattle.std.specs.Cmp.Lexicographic.{slice_cmp}
use Rattle.std.specs.Option.{option_cmp}
use Rattle.erl_term.specs.Order.{pid_cmp, reference_cmp}
use Rattle.erl_term.specs.declared.term.Pid.{Pid}
use Rattle.monitor_core.specs.declared.orders.By.{By}
use Rattle.monitor_core.specs.declared.orders.By.TheVariants.{References, Processes, Nodes}
use Rattle.monitor_core.specs.Slots.{Entry, held_at}

-- the process by which a monitor is found, and the node's name by which it is found
module _ {M : Type 0} (process : M → Pid) (node : M → List ℕ) where
  abbrev pub group_cmp : By → M → M → Ordering
  group_cmp References m n = Equal
  group_cmp Processes m n = pid_cmp (process m) (process n)
  group_cmp Nodes m n = slice_cmp nat_cmp (node m) (node n)

  -- and then by the reference
  abbrev pub entry_cmp : By → Entry M → Entry M → Ordering
  entry_cmp by e f = ordering_then (group_cmp by e.1 f.1) (reference_cmp e.0 f.0)

  abbrev pub slot_cmp : By → List (Option (Entry M)) → ℕ → ℕ → Ordering
  slot_cmp by slots i j = option_cmp (entry_cmp by) (held_at slots i) (held_at slots j)
