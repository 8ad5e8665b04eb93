use Rattle.std.proofs.Common.{rules}
use Rattle.node_frames.proofs.Sendable.{sendable_is}
use Rattle.node_frames.proofs.frame.Frame.of.Goals as goal

pub unreachable-requires : goal.unreachable-requires
unreachable-requires c = let s = sendable_is c.args.signal.now c.requires in search (rules, s)
