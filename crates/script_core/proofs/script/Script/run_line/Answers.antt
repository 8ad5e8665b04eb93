use Rattle.std.proofs.Common.{◌≡◌, ◌≤◌, ℕ, ◌+◌, List, [], ◌∷◌, ◌++◌, string_bytes, refl, sym, ap, subst, ◌∙◌, arith}
use Rattle.std.proofs.lemmas.List.Elements.{All-nil}
use Rattle.std.proofs.lemmas.Result.{err_from_is_err_and}
use Rattle.std.specs.Io.KnownBytes.{Appends}
use Rattle.script_core.specs.declared.script.Outcome.{Outcome}
use Rattle.script_core.specs.declared.script.Outcome.TheVariants.{BadLine, Failed, OutOfMemory}
use Rattle.script_core.specs.Lines.{Keeps}
use Rattle.script_core.specs.Script.{Run}
use Rattle.script_session.specs.Session.{line_does}
use Rattle.script_core.specs.Outcomes.{Answers, AppendsFront, rest_of}
use Rattle.script_core.proofs.KeptLemmas.{kept_line, line_more, stops, stops_there, wanted_line}
use Rattle.script_core.proofs.ScriptLemmas.{bad_line, fault_within, one_line, heeds_bad, heeds_ok, front_more}
use Rattle.script_core.proofs.script.Script.run_line.Goals as goal

pub returns-in-Err-Bad-clause-took : goal.returns-in-Err-Bad-clause-took
returns-in-Err-Bad-clause-took g c = λ p at rest.
    let held = g.W.Write.contents c.args.writer.now in
    let does =
    heeds_bad g.S.Lines.stands (line_does p.state c.deref.result.now) c.line.new.self (string_bytes c.new-out.result)
    (string_bytes c.line.new.out) c.line.result c.in-Err-Bad.field-0 c.in-Err-Bad.reason c.in-Err-Bad.is c.in-Err-Bad.field-0-is
    (c.line.ensures.runs p.state at.session) in
    let same : c.deref.result.now ≡ p.pending = c.deref.ensures.value ∙ at.pending in
    let within : p.number ≤ 1048576 = let n = at.number in let m = c.if-self-gt-LINES.false in omega arith in
    subst (λ (o : Outcome). Answers (rest_of p (10 ∷ rest)) held held o)
    (fault_within p.number c.in-Err-Bad.reason within ∙ ap (λ (n : ℕ). BadLine n c.in-Err-Bad.reason) (sym at.number))
    (bad_line p c.in-Err-Bad.reason rest held at.one_line (ap (line_does p.state) (sym same) ∙ does))

pub returns-clause-took : goal.returns-clause-took
returns-clause-took g c = λ p at.
    let st =
    heeds_ok g.S.Lines.stands (line_does p.state c.deref.result.now) c.line.new.self (string_bytes c.new-out.result)
    (string_bytes c.line.new.out) c.line.result c.in-Ok.field-0 c.in-Ok.is (c.line.ensures.runs p.state at.session) in
    let same : c.deref.result.now ≡ p.pending = c.deref.ensures.value ∙ at.pending in
    let within : p.number ≤ 1048576 = let n = at.number in let m = c.if-self-gt-LINES.false in omega arith in
    let text : c.as_bytes.result.now ≡ st.step.text =
    c.as_bytes.ensures.value ∙ st.text ∙ ap (λ (w : List ℕ). w ++ st.step.text) c.new-out.ensures.bytes in
    record {
      to = record { number = p.number + 1; state = st.step.state; pending = [] };
      text = st.step.text;
      at = record {
        session = st.state;
        pending = c.clear.ensures.items;
        number = ap (λ (n : ℕ). n + 1) at.number;
        one_line = All-nil _;
        short = omega arith;
      };
      goes = λ rest. one_line p st.step rest within at.one_line (ap (line_does p.state) (sym same) ∙ st.says);
      appended = subst
          (λ (w : List ℕ). Appends (g.W.Write.contents c.args.writer.now) (g.W.Write.contents c.write_bytes.new.writer) w)
          text c.in_ok-write_bytes.ensures.ok;
    }

pub returns-in_err-write_bytes-clause-took : goal.returns-in_err-write_bytes-clause-took
returns-in_err-write_bytes-clause-took g c = λ p at.
    let old = g.W.Write.contents c.args.writer.now in
    let new = g.W.Write.contents c.write_bytes.new.writer in
    let st =
    heeds_ok g.S.Lines.stands (line_does p.state c.deref.result.now) c.line.new.self (string_bytes c.new-out.result)
    (string_bytes c.line.new.out) c.line.result c.in-Ok.field-0 c.in-Ok.is (c.line.ensures.runs p.state at.session) in
    let same : c.deref.result.now ≡ p.pending = c.deref.ensures.value ∙ at.pending in
    let within : p.number ≤ 1048576 = let n = at.number in let m = c.if-self-gt-LINES.false in omega arith in
    let text : c.as_bytes.result.now ≡ st.step.text =
    c.as_bytes.ensures.value ∙ st.text ∙ ap (λ (w : List ℕ). w ++ st.step.text) c.new-out.ensures.bytes in
    let failed = c.in_err-write_bytes.ensures.err in
    let front : AppendsFront st.step.text old new = subst (λ (w : List ℕ). AppendsFront w old new) text failed.1 in
    let stopped : (rest : List ℕ) → Answers (rest_of p (10 ∷ rest)) old new c.in_err-write_bytes.field-0.0 = λ rest.
    subst (λ (o : Outcome). Answers (rest_of p (10 ∷ rest)) old new o) (sym failed.0)
    (subst (λ (run : Run). AppendsFront run.text old new)
    (sym (one_line p st.step rest within at.one_line (ap (line_does p.state) (sym same) ∙ st.says)))
    (front_more st.step.text _ old new front)) in
    let r = err_from_is_err_and c.from_residual.result c.from_residual.ensures.1 in
    rw (r.1, r.2) stopped

pub returns-then-self-gt-LINES-clause-kept : goal.returns-then-self-gt-LINES-clause-kept
returns-then-self-gt-LINES-clause-kept g c = λ known first before k.
    stops (g.S.Lines.keeps known) c.args.self.now _ first before (10 ∷ []) Failed k k.session refl (λ number left. tt)

pub returns-in-Err-OutOfMemory-clause-kept : goal.returns-in-Err-OutOfMemory-clause-kept
returns-in-Err-OutOfMemory-clause-kept g c = λ known first before k.
    stops (g.S.Lines.keeps known) c.args.self.now _ first before (10 ∷ []) OutOfMemory k
    (wanted_line (g.S.Lines.keeps known) k.lines c.deref.result.now c.line.new.self c.line.result c.in-Err-OutOfMemory.field-0
    c.in-Err-OutOfMemory.is c.in-Err-OutOfMemory.field-0-is (c.line.ensures.kept known k.lines k.session))
    refl (λ number left. tt)

pub returns-clause-kept : goal.returns-clause-kept
returns-clause-kept g c = λ known first before k.
    let within : c.args.self.now.number ≤ 1048576 = let m = c.if-self-gt-LINES.false in omega arith in
    let keeps =
    kept_line (g.S.Lines.keeps known) k.lines c.args.self.now.pending.items c.line.new.self c.line.result c.in-Ok.field-0 c.in-Ok.is
    (subst (λ (w : List ℕ). Keeps (g.S.Lines.keeps known) k.lines w c.line.new.self c.line.result) c.deref.ensures.value
    (c.line.ensures.kept known k.lines k.session)) in
    line_more (g.S.Lines.keeps known) c.args.self.now _ first before k within keeps c.clear.ensures.items refl

pub returns-in_err-write_bytes-clause-kept : goal.returns-in_err-write_bytes-clause-kept
returns-in_err-write_bytes-clause-kept g c = λ known first before k.
    let within : c.args.self.now.number ≤ 1048576 = let m = c.if-self-gt-LINES.false in omega arith in
    let keeps =
    kept_line (g.S.Lines.keeps known) k.lines c.args.self.now.pending.items c.line.new.self c.line.result c.in-Ok.field-0 c.in-Ok.is
    (subst (λ (w : List ℕ). Keeps (g.S.Lines.keeps known) k.lines w c.line.new.self c.line.result) c.deref.ensures.value
    (c.line.ensures.kept known k.lines k.session)) in
    let more = line_more (g.S.Lines.keeps known) c.args.self.now _ first before k within keeps c.clear.ensures.items refl in
    let r = err_from_is_err_and c.from_residual.result c.from_residual.ensures.1 in
    rw (r.1, r.2, c.in_err-write_bytes.ensures.err.0)
    (stops_there (g.S.Lines.keeps known) _ first (before ++ 10 ∷ []) Failed more (λ number left. tt))
