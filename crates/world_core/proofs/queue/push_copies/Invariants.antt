use Rattle.std.proofs.Common.{◌≡◌, ◌++◌, take}
use Rattle.world_core.proofs.queue.push_copies.Given as goal

abbrev pub invariant-loop-frame : goal.invariant-loop-frame
invariant-loop-frame l = l.copies.items ≡ l.fn.copies.items ++ take l.frame-index l.frames
