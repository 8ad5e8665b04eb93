use Rattle.world_core.proofs.Happened.{ran_safely}
use Rattle.dist_model.specs.Runs.{opening}
use Rattle.world_core.specs.Ran.{events_in}
use Rattle.world_core.proofs.world.World.run.Goals as goal

pub returns-clause-safe : goal.returns-clause-safe
returns-clause-safe c = λ nodes h.
    ran_safely c.every_run_is_safe.ensures.safe c.every_report_is_safe.ensures.told c.apply_all.new.self nodes
    (events_in (opening nodes).names c.args.events.items) c.apply_all.new.answers.items
    (c.apply_all.ensures (opening nodes) h)
