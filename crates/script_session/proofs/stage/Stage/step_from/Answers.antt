use Rattle.script_session.proofs.stage.Stage.step_from.Goals as goal

pub returns-in-Ok : goal.returns-in-Ok
returns-in-Ok c = λ it h from. c.told.ensures it c.args.event (c.in-Ok.ensures it h) from
