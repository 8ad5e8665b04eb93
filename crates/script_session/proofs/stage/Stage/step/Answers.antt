use Rattle.std.proofs.Common.{◌≡◌, ◌∙◌, rules}
use Rattle.std.specs.Option.{option_copied}
use Rattle.script_session.proofs.stage.Stage.step.Goals as goal

pub returns-in-Ok : goal.returns-in-Ok
returns-in-Ok c = λ it h.
    let same : option_copied c.as_ref.result ≡ c.in-Ok.peer = search rules in
    c.step_from-came.ensures it h (same ∙ c.in-Ok.ensures it.world h.world)
