use Rattle.std.proofs.Common.{ℕ, List, [], ◌∷◌, ◌++◌, append_assoc, sym, subst, ◌∙◌}
use Rattle.std.proofs.lemmas.List.{append-nil}
use Rattle.std.proofs.lemmas.Result.{err_from_is_err_and}
use Rattle.script_core.specs.Kept.{Came, HasKept, Stopped}
use Rattle.script_core.specs.declared.script.Outcome.TheVariants.{Failed}
use Rattle.script_core.specs.Outcomes.{IsAt, Took}
use Rattle.script_core.proofs.KeptLemmas.{kept_further, kept_none, kept_whole, stopped_further, stops_there}
use Rattle.script_core.proofs.ScriptLemmas.{flushed, stopped_there, took_further, took_up_to_none}
use Rattle.script_core.proofs.script.Script.take.Goals as goal

pub loop-parts-init : goal.loop-parts-init
loop-parts-init g c = (
  λ p at. took_up_to_none p c.args.bytes.now (IsAt g.S.Lines.stands c.args.self.now) (g.W.Write.contents c.args.writer.now) at,
  λ known first before k. kept_none (g.S.Lines.keeps known) c.args.self.now first before c.args.bytes.now k,
)

pub loop-parts-preserved : goal.loop-parts-preserved
loop-parts-preserved g c =
    let rest = c.loop-parts.rest.now in
    let text = c.in-Some.parts.0.now in
    let behind = c.in-Some.parts.1.now in
    let line : List ℕ = text ++ 10 ∷ [] in
    let s = IsAt g.S.Lines.stands c.loop-parts.self in
    let t = IsAt g.S.Lines.stands c.end_line.new.self in
    let mid = g.W.Write.contents c.loop-parts.writer in
    let new = g.W.Write.contents c.end_line.new.writer in
    let parts = c.in-Some.ensures.parts ∙ sym (append_assoc text (10 ∷ []) behind) in (
      λ p at.
          took_further p c.args.bytes.now rest line behind s t (g.W.Write.contents c.args.writer.now) mid new
          (c.loop-parts.invariant.0 p at) parts
          (λ q h. subst (Took q line t mid new) c.in_ok-end_line.was (c.end_line.ensures.took q h)),
      λ known first before k.
          let h = c.loop-parts.invariant.1 known first before k in
          kept_further (g.S.Lines.keeps known) c.loop-parts.self c.end_line.new.self first before c.args.bytes.now rest line behind h parts
          (subst (HasKept (g.S.Lines.keeps known) c.end_line.new.self first) (append_assoc (before ++ h.front) text (10 ∷ []))
          (subst (Came (g.S.Lines.keeps known) c.end_line.new.self first ((before ++ h.front) ++ text ++ 10 ∷ [])) c.in_ok-end_line.was
          (c.end_line.ensures.kept known first (before ++ h.front) h.kept))),
    )

pub returns-in_err-end_line-clause-took : goal.returns-in_err-end_line-clause-took
returns-in_err-end_line-clause-took g c = λ p at.
    let rest = c.loop-parts.rest.now in
    let text = c.in-Some.parts.0.now in
    let behind = c.in-Some.parts.1.now in
    let line : List ℕ = text ++ 10 ∷ [] in
    let s = IsAt g.S.Lines.stands c.loop-parts.self in
    let t = IsAt g.S.Lines.stands c.end_line.new.self in
    let mid = g.W.Write.contents c.loop-parts.writer in
    let new = g.W.Write.contents c.end_line.new.writer in
    let r = err_from_is_err_and c.from_residual.result c.from_residual.ensures.1 in
    rw (r.1, r.2)
    (stopped_there p c.args.bytes.now rest line behind s t (g.W.Write.contents c.args.writer.now) mid new
    c.in_err-end_line.field-0.0 (c.loop-parts.invariant.0 p at)
    (c.in-Some.ensures.parts ∙ sym (append_assoc text (10 ∷ []) behind))
    (λ q h. subst (Took q line t mid new) c.in_err-end_line.was (c.end_line.ensures.took q h)))

pub returns-in_err-take_text-clause-took : goal.returns-in_err-take_text-clause-took
returns-in_err-take_text-clause-took g c = λ p at.
    let rest = c.loop-parts.rest.now in
    let s = IsAt g.S.Lines.stands c.loop-parts.self in
    let t = IsAt g.S.Lines.stands c.take_text.new.self in
    let mid = g.W.Write.contents c.loop-parts.writer in
    let r = err_from_is_err_and c.from_residual-in_err-take_text.result c.from_residual-in_err-take_text.ensures.1 in
    rw (r.1, r.2)
    (stopped_there p c.args.bytes.now rest rest [] s t (g.W.Write.contents c.args.writer.now) mid mid
    c.in_err-take_text.field-0.0 (c.loop-parts.invariant.0 p at) (sym (append-nil rest))
    (λ q h. subst (Took q rest t mid mid) c.in_err-take_text.was (c.take_text.ensures.took q mid h)))

pub returns-in-Ok-clause-took : goal.returns-in-Ok-clause-took
returns-in-Ok-clause-took g c = λ p at.
    let rest = c.loop-parts.rest.now in
    let s = IsAt g.S.Lines.stands c.loop-parts.self in
    let t = IsAt g.S.Lines.stands c.take_text.new.self in
    let old = g.W.Write.contents c.args.writer.now in
    let mid = g.W.Write.contents c.loop-parts.writer in
    let h =
    took_further p c.args.bytes.now rest rest [] s t old mid mid
    (c.loop-parts.invariant.0 p at) (sym (append-nil rest))
    (λ q k. subst (Took q rest t mid mid) c.in_ok-take_text.was (c.take_text.ensures.took q mid k)) in
    flushed p c.args.bytes.now h.front t old mid (g.W.Write.contents c.flush.new.self) h.reached
    (sym (append-nil h.front) ∙ sym h.parts) c.flush.ensures.bytes

pub returns-in_err-end_line-clause-kept : goal.returns-in_err-end_line-clause-kept
returns-in_err-end_line-clause-kept g c = λ known first before k.
    let keeps = g.S.Lines.keeps known in
    let text = c.in-Some.parts.0.now in
    let behind = c.in-Some.parts.1.now in
    let line : List ℕ = text ++ 10 ∷ [] in
    let o = c.in_err-end_line.field-0.0 in
    let h = c.loop-parts.invariant.1 known first before k in
    let r = err_from_is_err_and c.from_residual.result c.from_residual.ensures.1 in
    rw (r.1, r.2)
    (stopped_further keeps c.loop-parts.self c.end_line.new.self first before c.args.bytes.now c.loop-parts.rest.now line behind o h
    (c.in-Some.ensures.parts ∙ sym (append_assoc text (10 ∷ []) behind))
    (subst (λ (w : List ℕ). Stopped keeps c.end_line.new.self first w o) (append_assoc (before ++ h.front) text (10 ∷ []))
    (subst (Came keeps c.end_line.new.self first ((before ++ h.front) ++ text ++ 10 ∷ [])) c.in_err-end_line.was
    (c.end_line.ensures.kept known first (before ++ h.front) h.kept))))

pub returns-in_err-take_text-clause-kept : goal.returns-in_err-take_text-clause-kept
returns-in_err-take_text-clause-kept g c = λ known first before k.
    let keeps = g.S.Lines.keeps known in
    let rest = c.loop-parts.rest.now in
    let o = c.in_err-take_text.field-0.0 in
    let h = c.loop-parts.invariant.1 known first before k in
    let r = err_from_is_err_and c.from_residual-in_err-take_text.result c.from_residual-in_err-take_text.ensures.1 in
    rw (r.1, r.2)
    (stopped_further keeps c.loop-parts.self c.take_text.new.self first before c.args.bytes.now rest rest [] o h (sym (append-nil rest))
    (subst (Came keeps c.take_text.new.self first ((before ++ h.front) ++ rest)) c.in_err-take_text.was
    (c.take_text.ensures.kept known first (before ++ h.front) h.kept)))

pub returns-in-Ok-clause-kept : goal.returns-in-Ok-clause-kept
returns-in-Ok-clause-kept g c = λ known first before k.
    let keeps = g.S.Lines.keeps known in
    let rest = c.loop-parts.rest.now in
    let h = c.loop-parts.invariant.1 known first before k in
    kept_whole keeps c.loop-parts.self c.take_text.new.self first before c.args.bytes.now rest h
    (subst (Came keeps c.take_text.new.self first ((before ++ h.front) ++ rest)) c.in_ok-take_text.was
    (c.take_text.ensures.kept known first (before ++ h.front) h.kept))

pub returns-in-Err-clause-kept : goal.returns-in-Err-clause-kept
returns-in-Err-clause-kept g c = λ known first before k.
    let keeps = g.S.Lines.keeps known in
    let rest = c.loop-parts.rest.now in
    let h = c.loop-parts.invariant.1 known first before k in
    stops_there keeps c.take_text.new.self first (before ++ c.args.bytes.now) Failed
    (kept_whole keeps c.loop-parts.self c.take_text.new.self first before c.args.bytes.now rest h
    (subst (Came keeps c.take_text.new.self first ((before ++ h.front) ++ rest)) c.in_ok-take_text.was
    (c.take_text.ensures.kept known first (before ++ h.front) h.kept)))
    (λ number left. tt)
