use Rattle.std.proofs.Common.{length, ◌≡◌, ◌++◌, ◌≤◌, List, take}
use Rattle.dist_model.specs.Names.{Name}
use Rattle.erl_names.specs.declared.trunk.TrunkId.{TrunkId}
use Rattle.node_frames.specs.Frames.{Framed}
use Rattle.world_core.specs.Lists.{at}
use Rattle.node_core.specs.SentAt.{sent_at}
use Rattle.world_core.proofs.lists.Lists.take_back.Given as goal

-- the effects that are left are still sent
abbrev pub invariant-loop-left : goal.invariant-loop-left
invariant-loop-left l = record {
  some : l.left ≤ length l.effects;
  sent : (rest : TrunkId → Name → List Framed)
      → ((t : TrunkId) (x : Name) → at l.fn.self t x ≡ rest t x ++ sent_at t x l.effects)
      → (t : TrunkId) (x : Name) → at l.self t x ≡ rest t x ++ sent_at t x (take l.left l.effects);
}

abbrev pub decreases-loop-left : goal.decreases-loop-left
decreases-loop-left l = l.left
