use Rattle.dist_model.proofs.laws.refused_changes_nothing.Goals as goal
use Rattle.dist_model.proofs.Run.{refused_unchanged}

pub returns : goal.returns
returns c = record { unchanged = refused_unchanged }
