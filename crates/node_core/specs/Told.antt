-- The answer of a node in code, and the report of the model that says the same.
-- (ERTS User's Guide, Distribution Protocol; Reference Manual, Processes.)
use Rattle.std.specs.Prelude.{◌≡◌, map, Result, Ok, Err}
use Rattle.dist_model.specs.World as model
use Rattle.dist_model.specs.declared.report.Report.{Report}
use Rattle.erl_term.specs.declared.refusal.Refusal.{Refusal}
use Rattle.node_frames.specs.Frames.{Framed, shown}

abbrev pub Answered : Type 0
Answered = Result (Report Framed) Refusal

-- the answer and the model's report say the same, with the frames of the sent items
abbrev pub Tells : Answered → model.Report → Type 0
Tells (Ok report) (model.Reported answer effects) = (report.answer ≡ answer) × (report.effects.items ≡ map shown effects)
Tells (Err e) (model.Refused why) = e ≡ why
Tells _ _ = ⊥
