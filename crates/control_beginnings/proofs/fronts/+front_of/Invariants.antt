use Rattle.control_beginnings.proofs.fronts.+front_of.Given as goal

abbrev pub decreases-front_of : goal.decreases-front_of
decreases-front_of l = l.levels
