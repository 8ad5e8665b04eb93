use Rattle.std.proofs.Common.{refl}
use Rattle.script_repeats.proofs.script.Repeating.run.Goals as goal

pub returns : goal.returns
returns c = λ state is.
    let steps = c.in-Ok.ensures state is in
    record { step = steps.step; does = steps.says; session = steps.state; text = c.in_ok-put_line.ensures; count = refl }
