-- The frames that an event sends on a connection to a node, in the order of its effects.
-- (Reference Manual, Processes, Delivery of Signals.)
use Rattle.std.specs.Prelude.{Some, if◌then◌else◌, List, [], ◌∷◌, ◌++◌}
use Rattle.std.specs.Ordering.{eq_by_cmp}
use Rattle.dist_model.specs.Names.{Name, place_cmp}
use Rattle.dist_model.specs.declared.report.Effect.{Effect}
use Rattle.erl_names.specs.declared.trunk.TrunkId.{TrunkId}
use Rattle.node_frames.specs.Frames.{Framed}

-- one frame more, at its place
abbrev pub one_at : TrunkId × Name → TrunkId × Name → Framed → List Framed
one_at place of frame = if eq_by_cmp place_cmp place of then frame ∷ [] else []

-- the frames that are sent on a connection to a node
abbrev pub sent_at : TrunkId → Name → List (Effect Framed) → List Framed
sent_at trunk to [] = []
sent_at trunk to (Effect.Sent (Some on) peer frame ∷ rest) = one_at (trunk, to) (on, peer) frame ++ sent_at trunk to rest
sent_at trunk to (effect ∷ rest) = sent_at trunk to rest
