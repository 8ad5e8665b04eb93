use Rattle.std.proofs.Common.{◌≡◌, ◌<◌, ◌+◌, ℕ, false, List, [], ◌++◌, length, refl, sym, ap, subst, ◌∙◌, arith}
use Rattle.std.proofs.lemmas.List.{length-append}
use Rattle.std.proofs.lemmas.List.Elements.{All-append}
use Rattle.script_lines.specs.declared.reason.Reason.TheVariants.{TooLong}
use Rattle.script_core.specs.declared.script.Outcome.{Outcome}
use Rattle.script_core.specs.declared.script.Outcome.TheVariants.{OutOfMemory}
use Rattle.script_core.specs.Outcomes.{Answers, rest_of, fault_at}
use Rattle.script_core.proofs.KeptLemmas.{stops, stops_long}
use Rattle.script_core.proofs.ScriptLemmas.{appends_nothing, long_text, more_bytes}
use Rattle.script_lines.specs.Breaks.{is_break}
use Rattle.script_core.proofs.script.Script.take_text.Goals as goal

pub returns-then-text-saturating_sub-clause-took : goal.returns-then-text-saturating_sub-clause-took
returns-then-text-saturating_sub-clause-took g c = λ p held at rest.
    let len = ap length at.pending in
    let long : 65536 < length p.pending + length c.args.text.now = omega arith in
    subst (λ (o : Outcome). Answers (rest_of p (c.args.text.now ++ rest)) held held o)
    (ap (λ (n : ℕ). fault_at n TooLong) (sym at.number) ∙ sym c.fault.ensures)
    (long_text p c.args.text.now rest held at.one_line c.requires long)

pub returns-in-Ok-clause-took : goal.returns-in-Ok-clause-took
returns-in-Ok-clause-took g c = λ p held at.
    let len = ap length at.pending in
    let short = at.short in
    let longer = length-append p.pending c.args.text.now in
    record {
      to = record { number = p.number; state = p.state; pending = p.pending ++ c.args.text.now };
      text = [];
      at = record {
        session = at.session;
        pending = c.in-Ok.ensures.items ∙ ap (λ (w : List ℕ). w ++ c.args.text.now) at.pending;
        number = at.number;
        one_line = All-append (λ (b : ℕ). is_break b ≡ false) p.pending c.args.text.now at.one_line c.requires;
        short = omega arith;
      };
      goes = λ rest. more_bytes p c.args.text.now rest;
      appended = appends_nothing held;
    }

pub returns-then-text-saturating_sub-clause-kept : goal.returns-then-text-saturating_sub-clause-kept
returns-then-text-saturating_sub-clause-kept g c = λ known first before k.
    let long : 65536 < length c.args.self.now.pending.items + length c.args.text.now = omega arith in
    stops_long (g.S.Lines.keeps known) c.args.self.now first before c.args.text.now c.fault.result k c.requires long c.fault.ensures

pub returns-in-Err-clause-kept : goal.returns-in-Err-clause-kept
returns-in-Err-clause-kept g c = λ known first before k.
    stops (g.S.Lines.keeps known) c.args.self.now _ first before c.args.text.now OutOfMemory k k.session refl (λ number left. tt)
