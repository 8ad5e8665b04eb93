-- The slots that hold entries, in three orders.
use Rattle.std.specs.Prelude.{◌≡◌, ◌≤◌, ℕ, Bool, List, Option}
use Rattle.std.specs.declared.cmp.Ordering.TheVariants.{Less}
use Rattle.erl_term.specs.declared.term.Pid.{Pid}
use Rattle.monitor_core.specs.declared.orders.By.{By}
use Rattle.monitor_core.specs.declared.orders.By.TheVariants.{References, Processes, Nodes}
use Rattle.monitor_core.specs.declared.orders.Sought.{Sought}
use Rattle.monitor_core.specs.declared.orders.Sought.TheVariants.{Named, OfProcess, OnNode}
use Rattle.monitor_core.specs.declared.trees.Trees.{Trees}
use Rattle.sorted_map.specs.Indexed.{Indexed}
use Rattle.monitor_core.specs.Slots.{Entry, Slotted, Rises, has, holds, IsAlone}
use Rattle.monitor_core.specs.Orders.{slot_cmp}

-- memory is reserved for this number of further slots in each tree
pub record HaveRoom (more : ℕ) (trees : Trees) : Type 0 where
  pub references : more ≤ trees.by_reference.room
  pub processes : more ≤ trees.by_process.room
  pub nodes : more ≤ trees.by_node.room

-- the slots in the order that those that are sought lie in
abbrev pub tree_of : Sought → Trees → Indexed
tree_of (Named reference) trees = trees.by_reference
tree_of (OfProcess process) trees = trees.by_process
tree_of (OnNode node) trees = trees.by_node

module _ {M : Type 0} (process : M → Pid) (node : M → List ℕ) where
  -- the slots that are in, each once, in this order
  pub record IsTree (by : By) (slots : List (Option (Entry M))) (is_in : ℕ → Bool) (tree : List ℕ) : Type 0 where
    pub rising : Rises (λ i j. slot_cmp process node by slots i j ≡ Less) tree
    pub all : (slot : ℕ) → has slot tree ≡ is_in slot

  -- the same in the three orders
  pub record AreTrees (slots : List (Option (Entry M))) (is_in : ℕ → Bool) (trees : Trees) : Type 0 where
    pub references : IsTree References slots is_in trees.by_reference.slots
    pub processes : IsTree Processes slots is_in trees.by_process.slots
    pub nodes : IsTree Nodes slots is_in trees.by_node.slots

  -- the slots that hold entries, each entry of a reference of its own
  pub record AreIndexed (slots : List (Option (Entry M))) (trees : Trees) : Type 0 where
    pub alone : IsAlone slots
    pub ordered : AreTrees slots (holds slots) trees

  -- entries in slots, and the reserved room
  pub record AreMonitors (slots : Slotted M) (trees : Trees) (room : ℕ) : Type 0 where
    pub indexed : AreIndexed slots.slots trees
    pub of_slots : room ≤ slots.room
    pub of_trees : HaveRoom room trees
