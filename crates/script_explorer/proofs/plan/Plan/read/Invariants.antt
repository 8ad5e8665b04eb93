use Rattle.std.proofs.Common.{length}
use Rattle.script_explorer.proofs.plan.Plan.read.Given as goal

abbrev pub decreases-loop-text : goal.decreases-loop-text
decreases-loop-text l = length l.rest
