use Rattle.script_session.proofs.stage.Stage.told.Goals as goal

pub returns-in-Ok : goal.returns-in-Ok
returns-in-Ok c = λ it event a from. c.in-Ok.ensures it event a from
