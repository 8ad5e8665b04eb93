use Rattle.world_core.proofs.Carried.{came_then}
use Rattle.world_core.proofs.world.World.apply.Goals as goal

pub returns-in-Some : goal.returns-in-Some
returns-in-Some c = λ m h. came_then c.apply_one-answer.new.self c.drop_lost.new.self m _ _ (c.apply_one-answer.ensures m h) c.drop_lost.ensures
