use Rattle.dist_model.proofs.laws.living_means.Goals as goal
use Rattle.dist_model.proofs.Peopled.{down_holds_nothing, living_means, spawned_lives_or_ended}

pub returns-clause-living : goal.returns-clause-living
returns-clause-living c = living_means

pub returns-clause-spawned : goal.returns-clause-spawned
returns-clause-spawned c = spawned_lives_or_ended

pub returns-clause-down : goal.returns-clause-down
returns-clause-down c = down_holds_nothing
