use Rattle.std.proofs.Common.{◌≡◌, Err, List, Ok, ℕ, length, map, ap, subst, ◌∙◌, take, take_all, arith}
use Rattle.std.proofs.lemmas.List.{length-map}
use Rattle.std.proofs.lemmas.Result.{err_from_is_err_and}
use Rattle.script_core.proofs.Merging.{ran_more, stopped_at}
use Rattle.script_core.specs.Threaded.{LeadsTo, RunsLine, RunsLines}
use Rattle.script_core.specs.declared.script.Script.{Script}
use Rattle.script_core.specs.declared.threads.InThreads.{InThreads}
use Rattle.script_core.proofs.threads.run_lines.Goals as goal

pub returns-in_err-run_line : goal.returns-in_err-run_line
returns-in_err-run_line g c = λ known first h n most.
    let inv = c.loop-line.invariant in
    let at = inv.4 known first h n most in
    let items = c.deref-line-items.result.now in
    let item = c.line-item.result in
    let o = c.in_err-run_line.field-0.0 in
    let session = c.run_line.new.session in
    let ran : RunsLine at.1 item.items c.loop-line.number session (Err o) =
    subst (λ (w : List ℕ). RunsLine at.1 w c.loop-line.number session (Err o)) c.deref.ensures.value
    (subst (RunsLine at.1 c.deref.result.now c.loop-line.number session) c.in_err-run_line.was (c.run_line.ensures at.1 at.3)) in
    let count = length-map c.args.script.now.session.lines.items (λ x. x.items) in
    let same = ap (λ xs. length xs) inv.0 in
    let new : Script InThreads = record {
      session = record { session = session; lines = c.loop-line.script.session.lines };
      pending = c.loop-line.script.pending;
      number = c.loop-line.script.number;
    } in
    let r = err_from_is_err_and c.from_residual.result c.from_residual.ensures.1 in
    rw (r.1, r.2)
    (subst (λ xs. RunsLines known first (map (λ x. x.items) xs) c.args.script.now new (Err o)) inv.0
    (stopped_at (λ x. x.items) items c.loop-line.line-index item c.loop-line-test.true c.line-item.is known at.1 first
    c.loop-line.number session c.args.script.now new o at.0 (omega arith) at.2 ran))

pub loop-line-preserved : goal.loop-line-preserved
loop-line-preserved g c =
    let inv = c.loop-line.invariant in
    let items = c.deref-line-items.result.now in
    let item = c.line-item.result in
    let session = c.run_line.new.session in (
      inv.0,
      inv.1,
      inv.2,
      inv.3,
      λ known first h n most.
          let at = inv.4 known first h n most in
          let count = length-map c.args.script.now.session.lines.items (λ x. x.items) in
          let same = ap (λ xs. length xs) inv.0 in
          let within = c.loop-line-test.true in
          let ran =
          subst (λ (w : List ℕ). RunsLine at.1 w c.loop-line.number session (Ok c.in_ok-run_line.field-0)) c.deref.ensures.value
          (subst (RunsLine at.1 c.deref.result.now c.loop-line.number session) c.in_ok-run_line.was (c.run_line.ensures at.1 at.3)) in
          let more =
          ran_more (λ x. x.items) items c.loop-line.line-index item within c.line-item.is known at.1 c.loop-line.number session
          c.in_ok-run_line.field-0 at.2 ran in
          (let e = at.0 in omega (arith, c.saturating_add-number.ensures), more.0, more.1, more.2),
    )

pub returns-in-Ok : goal.returns-in-Ok
returns-in-Ok g c = λ known first h n most.
    let inv = c.loop-line.invariant in
    let at = inv.4 known first h n most in
    let items = c.deref-line-items.result.now in
    let all : take c.loop-line.line-index items ≡ c.args.script.now.session.lines.items =
    take_all c.loop-line.line-index items (omega arith) ∙ inv.0 in
    record {
      last = at.1;
      led = subst (λ xs. LeadsTo known (map (λ x. x.items) xs) at.1) all at.2;
      is_known = at.3;
      none = ap (λ xs. map (λ x. x.items) xs) inv.1;
      number = inv.2;
      pending = inv.3;
    }
