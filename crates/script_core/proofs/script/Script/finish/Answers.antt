use Rattle.std.proofs.Common.{◌≡◌, ◌<◌, [], ◌∷◌, ◌++◌, length, sym, ap, subst, ◌∙◌, arith}
use Rattle.std.proofs.lemmas.Result.{IfOk-at_ok}
use Rattle.script_core.specs.Kept.{Came}
use Rattle.script_core.specs.Script.{Run}
use Rattle.script_core.specs.Outcomes.{Answers, IsAt, Took, Reaches}
use Rattle.script_core.proofs.KeptLemmas.{all_kept, last_kept, last_stopped, no_bytes, no_pending}
use Rattle.script_core.proofs.ScriptLemmas.{some_pending, end_is_break, ran_to_end}
use Rattle.script_core.proofs.script.Script.finish.Goals as goal

pub returns-in-Ok-clause-answers : goal.returns-in-Ok-clause-answers
returns-in-Ok-clause-answers g c = λ p at.
    let old = g.W.Write.contents c.args.writer.now in
    let new = g.W.Write.contents c.run_line.new.writer in
    let n = some_pending _ (sym c.if-is_empty.false ∙ c.is_empty.ensures) in
    let len = ap length at.pending in
    let some : 0 < length p.pending = omega arith in
    let t : Reaches p (10 ∷ []) (IsAt g.S.Lines.stands c.run_line.new.self) old new =
    subst (Took p (10 ∷ []) (IsAt g.S.Lines.stands c.run_line.new.self) old new) c.in-Ok.is (c.run_line.ensures.took p at) in
    ran_to_end p (IsAt g.S.Lines.stands c.run_line.new.self) old new some at.one_line t
    (sym t.at.pending ∙ IfOk-at_ok _ c.in-Ok.is c.run_line.ensures.next)

pub returns-in-Err-clause-answers : goal.returns-in-Err-clause-answers
returns-in-Err-clause-answers g c = λ p at.
    let old = g.W.Write.contents c.args.writer.now in
    let new = g.W.Write.contents c.run_line.new.writer in
    let n = some_pending _ (sym c.if-is_empty.false ∙ c.is_empty.ensures) in
    let len = ap length at.pending in
    let some : 0 < length p.pending = omega arith in
    let t = subst (Took p (10 ∷ []) (IsAt g.S.Lines.stands c.run_line.new.self) old new) c.in-Err.is (c.run_line.ensures.took p at) in
    subst (λ (r : Run). Answers r old new c.in-Err.outcome) (sym (end_is_break p some at.one_line)) (t [])

pub returns-then-is_empty-clause-kept : goal.returns-then-is_empty-clause-kept
returns-then-is_empty-clause-kept g c = λ known first before k.
    let n = no_pending _ (sym c.if-is_empty.true ∙ c.is_empty.ensures) in
    let none : length c.args.self.now.pending.items ≡ 0 = omega arith in
    all_kept (g.S.Lines.keeps known) c.args.self.now first before k (no_bytes c.args.self.now.pending.items none)

pub returns-in-Ok-clause-kept : goal.returns-in-Ok-clause-kept
returns-in-Ok-clause-kept g c = λ known first before k.
    let keeps = g.S.Lines.keeps known in
    let n = some_pending _ (sym c.if-is_empty.false ∙ c.is_empty.ensures) in
    let some : 0 < length c.args.self.now.pending.items = omega arith in
    last_kept keeps c.args.self.now c.run_line.new.self first before k some
    (subst (Came keeps c.run_line.new.self first (before ++ 10 ∷ [])) c.in-Ok.is (c.run_line.ensures.kept known first before k))
    (IfOk-at_ok _ c.in-Ok.is c.run_line.ensures.next)

pub returns-in-Err-clause-kept : goal.returns-in-Err-clause-kept
returns-in-Err-clause-kept g c = λ known first before k.
    let keeps = g.S.Lines.keeps known in
    let n = some_pending _ (sym c.if-is_empty.false ∙ c.is_empty.ensures) in
    let some : 0 < length c.args.self.now.pending.items = omega arith in
    last_stopped keeps c.args.self.now c.run_line.new.self first before c.in-Err.outcome k some
    (subst (Came keeps c.run_line.new.self first (before ++ 10 ∷ [])) c.in-Err.is (c.run_line.ensures.kept known first before k))
