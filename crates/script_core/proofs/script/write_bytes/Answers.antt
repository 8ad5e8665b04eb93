use Rattle.std.proofs.Common.{List, ℕ, drop, sym, subst, take_all, arith}
use Rattle.std.proofs.lemmas.List.{length-drop}
use Rattle.script_core.proofs.ScriptLemmas.{Wrote, wrote_more}
use Rattle.script_core.proofs.script.write_bytes.Goals as goal

pub loop-preserved : goal.loop-preserved
loop-preserved g c =
    let rest = c.loop.rest.now in
    let n = c.in_ok-len.len in
    let old = g.W.Write.contents c.args.writer.now in
    let new = g.W.Write.contents c.write_some.new.writer in
    subst (λ (r : List ℕ). Wrote c.args.bytes.now r old new) (sym (take_all _ (drop n rest) (omega (arith, length-drop n rest))))
    (wrote_more c.args.bytes.now rest n old (g.W.Write.contents c.loop.writer) new c.loop.invariant c.in_ok-len.ensures.ok)
