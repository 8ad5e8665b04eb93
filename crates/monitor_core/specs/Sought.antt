-- The entries that a search is for.
use Rattle.std.specs.Prelude.{◌≡◌, ◌≢◌, ◌&&◌, if◌then◌else◌, ℕ, Bool, true, false, List, Option, None, Some}
use Rattle.std.specs.declared.cmp.Ordering.{Ordering}
use Rattle.std.specs.declared.cmp.Ordering.TheVariants.{Less, Equal}
use Rattle.std.specs.Ordering.{nat_cmp, ordering_then, is_lt, is_eq}
use Rattle.std.specs.Cmp.Lexicographic.{slice_cmp}
use Rattle.erl_term.specs.Order.{pid_cmp, reference_cmp}
use Rattle.erl_term.specs.declared.term.Pid.{Pid}
use Rattle.erl_term.specs.declared.term.Reference.{Reference}
use Rattle.monitor_core.specs.declared.orders.By.{By}
use Rattle.monitor_core.specs.declared.orders.By.TheVariants.{References, Processes, Nodes}
use Rattle.monitor_core.specs.declared.orders.Sought.{Sought}
use Rattle.monitor_core.specs.declared.orders.Sought.TheVariants.{Named, OfProcess, OnNode}
use Rattle.monitor_core.specs.Slots.{Entry, held_at}

-- true if a reference is greater than the bound, or there is no bound
abbrev pub is_behind : Option Reference → Reference → Bool
is_behind None reference = true
is_behind (Some bound) reference = is_lt (reference_cmp bound reference)

-- the order in which the entries that are sought lie beside one another
abbrev pub by_of : Sought → By
by_of (Named reference) = References
by_of (OfProcess process) = Processes
by_of (OnNode node) = Nodes

module _ {M : Type 0} (process_of : M → Pid) (node_of : M → List ℕ) where
  -- the order of an entry against those that are sought
  abbrev pub stand : Sought → Entry M → Ordering
  stand (Named reference) entry = reference_cmp entry.0 reference.now
  stand (OfProcess process) entry = pid_cmp (process_of entry.1) process.now
  stand (OnNode node) entry = slice_cmp nat_cmp (node_of entry.1) node.now

  abbrev pub meets : Sought → Option Reference → Entry M → Bool
  meets sought behind entry = is_behind behind entry.0 && is_eq (stand sought entry)

  -- the order of an entry, or of the entry in a slot, against the first that is sought behind a reference
  abbrev pub entry_place : Sought → Option Reference → Option (Entry M) → Ordering
  entry_place sought behind None = Less
  entry_place sought behind (Some entry) =
      ordering_then (stand sought entry) (if is_behind behind entry.0 then Equal else Less)

  abbrev pub slot_place : Sought → Option Reference → List (Option (Entry M)) → ℕ → Ordering
  slot_place sought behind slots slot = entry_place sought behind (held_at slots slot)

-- of the entries that pass, this slot holds the one of the least reference
pub record IsLeastAt {M : Type 0} (passes : Entry M → Bool) (slots : List (Option (Entry M))) (found : ℕ) : Type 0 where
  pub entry : Entry M
  pub held : held_at slots found ≡ Some entry
  pub passing : passes entry ≡ true
  pub least : (slot : ℕ) (other : Entry M) → held_at slots slot ≡ Some other → passes other ≡ true
      → reference_cmp other.0 entry.0 ≢ Less

-- the slot of the least reference, or none if no entry passes
abbrev pub IsNext : {M : Type 0} → (Entry M → Bool) → List (Option (Entry M)) → Option ℕ → Type 0
IsNext {M} passes slots None = (slot : ℕ) (entry : Entry M) → held_at slots slot ≡ Some entry → passes entry ≡ false
IsNext passes slots (Some found) = IsLeastAt passes slots found
