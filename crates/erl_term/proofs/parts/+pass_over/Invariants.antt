use Rattle.erl_term.proofs.parts.+pass_over.Given as goal

abbrev pub decreases-pass_over : goal.decreases-pass_over
decreases-pass_over l = l.levels
