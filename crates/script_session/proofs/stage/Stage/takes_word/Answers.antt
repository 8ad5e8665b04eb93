use Rattle.script_session.proofs.stage.Stage.takes_word.Goals as goal

pub returns-in-Arrive : goal.returns-in-Arrive
returns-in-Arrive c = λ it h. rw c.in-Arrive.is (c.is_new.ensures it h 0)
