use Rattle.std.proofs.Common.{◌≡◌, ◌≤◌, length, ◌-◌, drop, map}
use Rattle.world_core.specs.Names.{are_distinct}
use Rattle.world_core.proofs.world.World.can_open.Given as goal

-- none so far has the name of one behind it
abbrev pub invariant-loop-at : goal.invariant-loop-at
invariant-loop-at l = record {
  some : l.at ≤ length l.nodes;
  distinct : are_distinct (map (λ node. node.0) l.nodes) ≡ are_distinct (map (λ node. node.0) (drop l.at l.nodes));
}

abbrev pub decreases-loop-at : goal.decreases-loop-at
decreases-loop-at l = length l.nodes - l.at
