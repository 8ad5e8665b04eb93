use Rattle.std.proofs.Common.{◌≡◌, ◌++◌, List}
use Rattle.conn_core.specs.declared.arrival.Arrival.{Arrival}
use Rattle.conn_pieces.specs.Streams.{Gives}
use Rattle.conn_pieces.proofs.Taking.{work}
use Rattle.conn_pieces.proofs.stream_side.StreamSide.take_all.Given as goal

-- what was given so far
abbrev pub invariant-each : goal.invariant-each
invariant-each l = (given : List Arrival) × (l.arrivals.items ≡ l.fn.arrivals.items ++ given)
    × Gives l.own l.word l.fn.self.side l.fn.self.kept.items given l.self.side l.self.kept.items

abbrev pub decreases-each : goal.decreases-each
decreases-each l = work l.self.side l.self.kept.items
