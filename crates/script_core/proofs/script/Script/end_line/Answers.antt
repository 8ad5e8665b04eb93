use Rattle.std.proofs.Common.{[], ◌∷◌, ◌++◌, subst}
use Rattle.std.proofs.lemmas.Result.{err_from_is_err_and}
use Rattle.script_core.specs.Kept.{Came}
use Rattle.script_core.specs.Outcomes.{IsAt, Took, Reaches}
use Rattle.script_core.proofs.KeptLemmas.{stopped_more}
use Rattle.script_core.proofs.ScriptLemmas.{took_both, took_front}
use Rattle.script_core.proofs.script.Script.end_line.Goals as goal

pub returns-in_err-take_text-clause-took : goal.returns-in_err-take_text-clause-took
returns-in_err-take_text-clause-took g c = λ p at.
    let held = g.W.Write.contents c.args.writer.now in
    let text = c.args.text.now in
    let s = IsAt g.S.Lines.stands c.take_text.new.self in
    let r = err_from_is_err_and c.from_residual.result c.from_residual.ensures.1 in
    rw (r.1, r.2)
    (took_front p text (10 ∷ []) s held held c.in_err-take_text.field-0.0
    (subst (Took p text s held held) c.in_err-take_text.was (c.take_text.ensures.took p held at)))

pub returns-clause-took : goal.returns-clause-took
returns-clause-took g c = λ p at.
    let held = g.W.Write.contents c.args.writer.now in
    let text = c.args.text.now in
    let s = IsAt g.S.Lines.stands c.take_text.new.self in
    let reached : Reaches p text s held held = subst (Took p text s held held) c.in_ok-take_text.was (c.take_text.ensures.took p held at) in
    took_both p text (10 ∷ []) s (IsAt g.S.Lines.stands c.run_line.new.self) held held
    (g.W.Write.contents c.run_line.new.writer) c.run_line.result reached c.run_line.ensures.took

pub returns-in_err-take_text-clause-kept : goal.returns-in_err-take_text-clause-kept
returns-in_err-take_text-clause-kept g c = λ known first before k.
    let keeps = g.S.Lines.keeps known in
    let r = err_from_is_err_and c.from_residual.result c.from_residual.ensures.1 in
    rw (r.1, r.2)
    (stopped_more keeps c.take_text.new.self first (before ++ c.args.text.now) (10 ∷ []) c.in_err-take_text.field-0.0
    (subst (Came keeps c.take_text.new.self first (before ++ c.args.text.now)) c.in_err-take_text.was
    (c.take_text.ensures.kept known first before k)))
