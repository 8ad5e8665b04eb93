use Rattle.std.proofs.Common.{◌-◌, ◌<◌, ◌≤◌, take}
use Rattle.fault_places.specs.Places.{Goes, own_len}
use Rattle.fault_places.proofs.places.Reader.place.Given as goal

abbrev pub invariant-loop-refused : goal.invariant-loop-refused
invariant-loop-refused l =
    (l.begun < l.refused) × (l.refused ≤ own_len l.self l.bytes) × (0 < l.begun → Goes l.self (take l.begun l.bytes))
    × (¬ Goes l.self (take l.refused l.bytes))

abbrev pub decreases-loop-refused : goal.decreases-loop-refused
decreases-loop-refused l = l.refused - l.begun
