-- What a node's answer to an event says, without where it lies in memory.
use Rattle.std.specs.Prelude.{List, Result, Ok, Err}
use Rattle.dist_model.specs.declared.report.Answer.{Answer}
use Rattle.dist_model.specs.declared.report.Effect.{Effect}
use Rattle.dist_model.specs.declared.report.Report.{Report}
use Rattle.erl_term.specs.declared.refusal.Refusal.{Refusal}
use Rattle.node_frames.specs.Frames.{Framed}

abbrev pub said : Result (Report Framed) Refusal → Result (Answer × List (Effect Framed)) Refusal
said (Ok report) = Ok (report.answer, report.effects.items)
said (Err e) = Err e
