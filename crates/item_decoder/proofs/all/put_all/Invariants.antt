use Rattle.std.proofs.Common.{length, ◌-◌, string_bytes}
use Rattle.item_decoder.proofs.Joined.{SoFar}
use Rattle.item_decoder.proofs.all.put_all.Given as goal

abbrev pub invariant-loop-taken : goal.invariant-loop-taken
invariant-loop-taken l = SoFar l.style l.fn.next l.from l.bytes (string_bytes l.fn.out) l.taken l.all_read (string_bytes l.out) l.next

abbrev pub decreases-loop-taken : goal.decreases-loop-taken
decreases-loop-taken l = length l.bytes - l.taken
