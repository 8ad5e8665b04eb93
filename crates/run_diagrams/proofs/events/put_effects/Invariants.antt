use Rattle.std.proofs.Common.{take}
use Rattle.run_diagrams.specs.Recording.{ways_of}
use Rattle.run_diagrams.proofs.MarksAdded.{Recorded}
use Rattle.run_diagrams.proofs.events.put_effects.Given as goal

abbrev pub invariant-loop-effect : goal.invariant-loop-effect
invariant-loop-effect l = Recorded l.fn.ways.ways.items l.ways.ways.items (ways_of (take l.effect-index l.effects)) l.fn.row l.row
