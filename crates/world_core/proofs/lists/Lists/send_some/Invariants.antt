use Rattle.std.proofs.Common.{length, ◌-◌, ◌≡◌, ◌++◌, ◌≤◌, take}
use Rattle.dist_model.specs.Names.{Name}
use Rattle.erl_names.specs.declared.trunk.TrunkId.{TrunkId}
use Rattle.world_core.specs.Lists.{at}
use Rattle.node_core.specs.SentAt.{sent_at}
use Rattle.world_core.proofs.lists.Lists.send_some.Given as goal

-- so many effects are sent
abbrev pub invariant-loop-sent : goal.invariant-loop-sent
invariant-loop-sent l = record {
  some : l.sent ≤ length l.effects;
  sent : (t : TrunkId) (x : Name) → at l.self t x ≡ at l.fn.self t x ++ sent_at t x (take l.sent l.effects);
}

abbrev pub decreases-loop-sent : goal.decreases-loop-sent
decreases-loop-sent l = length l.effects - l.sent
