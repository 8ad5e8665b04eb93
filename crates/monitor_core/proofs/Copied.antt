-- The invariant of copies of slots and trees.
use Rattle.std.proofs.Common.{◌≡◌, ℕ, List, Option, sym, subst, arith}
use Rattle.erl_term.specs.declared.term.Pid.{Pid}
use Rattle.monitor_core.specs.Slots.{Entry, Slotted, IsAlone, holds}
use Rattle.monitor_core.specs.Trees.{AreMonitors, IsTree}
use Rattle.monitor_core.specs.declared.orders.By.{By}
use Rattle.monitor_core.specs.declared.orders.By.TheVariants.{References, Processes, Nodes}
use Rattle.monitor_core.specs.declared.trees.Trees.{Trees}

module _ {M : Type 0} (process : M → Pid) (node : M → List ℕ) where
  same_tree : (by : By) (slots copies : List (Option (Entry M))) (tree copy : List ℕ) → copies ≡ slots → copy ≡ tree
      → IsTree process node by slots (holds slots) tree → IsTree process node by copies (holds copies) copy
  same_tree by slots copies tree copy s t h =
      subst (λ (x : List (Option (Entry M))). IsTree process node by x (holds x) copy) (sym s)
      (subst (λ (l : List ℕ). IsTree process node by slots (holds slots) l) (sym t) h)

  -- the same slots and orders, and no room
  pub same_monitors : (slots copies : Slotted M) (trees copy : Trees) (room : ℕ) → copies.slots ≡ slots.slots
      → copy.by_reference.slots ≡ trees.by_reference.slots → copy.by_process.slots ≡ trees.by_process.slots
      → copy.by_node.slots ≡ trees.by_node.slots → AreMonitors process node slots trees room → AreMonitors process node copies copy 0
  same_monitors slots copies trees copy room s r p n h =
      let ordered = h.indexed.ordered in
      record {
        indexed = record {
          alone = subst (λ (x : List (Option (Entry M))). IsAlone x) (sym s) h.indexed.alone;
          ordered = record {
            references = same_tree References _ _ _ _ s r ordered.references;
            processes = same_tree Processes _ _ _ _ s p ordered.processes;
            nodes = same_tree Nodes _ _ _ _ s n ordered.nodes;
          };
        };
        of_slots = omega arith;
        of_trees = record { references = omega arith; processes = omega arith; nodes = omega arith };
      }
