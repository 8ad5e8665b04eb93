use Rattle.std.proofs.Common.{ℕ, List, ◌++◌, ap, map, string_bytes, ◌∙◌}
use Rattle.std.proofs.lemmas.Iterator.Consumers.{YieldsList-end}
use Rattle.std.proofs.lemmas.Iterator.Splits.{YieldsList-from_lines}
use Rattle.script_explorer.proofs.headings.add_lines.Goals as goal

pub returns : goal.returns
returns c =
    let t =
    YieldsList-end (YieldsList-from_lines c.args.text.now cc) c.loop-line.yielded _ c.loop-line.yielded_by _ _ c.in-None.is
    c.next.ensures.steps in
    c.loop-line.invariant ∙ ap (λ (ls : List (List ℕ)). map string_bytes c.args.lines.now.items ++ ls) t.0
