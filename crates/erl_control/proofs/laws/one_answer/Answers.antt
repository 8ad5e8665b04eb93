use Rattle.erl_control.proofs.Frames.{some_due, frame_once}
use Rattle.erl_control.proofs.laws.one_answer.Goals as goal

pub returns : goal.returns
returns c = λ bytes h.
    let d = some_due c.one_answer.ensures bytes h in
    (d.0, d.1, λ other p. frame_once c.one_answer.ensures c.one_spelling.ensures bytes other d.0 h p d.1)
