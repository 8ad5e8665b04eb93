use Rattle.std.proofs.Common.{List, ap, ◌∙◌, ℕ}
use Rattle.std.specs.List.{slice_split}
use Rattle.script_lines.specs.Breaks.{is_break, last_of}
use Rattle.script_lines.proofs.BreakLemmas.{last_behind, last_there}
use Rattle.script_lines.proofs.breaks.last_line.Goals as goal

pub loop-line-preserved : goal.loop-line-preserved
loop-line-preserved c =
    ap (λ (last : List ℕ). last_of last (slice_split is_break c.in-Some.behind.now)) c.later-last.ensures
    ∙ last_behind c.loop-line.last.now c.in-Some.line.now c.in-Some.behind.now c.loop-line.rest.now c.in-Some.ensures.parts c.in-Some.ensures.line
    ∙ c.loop-line.invariant

pub returns : goal.returns
returns c =
    c.later.ensures ∙ last_there c.loop-line.last.now c.loop-line.rest.now (c.in_default.ensures.none) ∙ c.loop-line.invariant
