use Rattle.script_core.proofs.ScriptLemmas.{Wrote}
use Rattle.script_core.proofs.script.write_bytes.Given as goal

abbrev pub invariant-loop : goal.invariant-loop
invariant-loop g l = Wrote l.fn.bytes l.rest (g.W.Write.contents l.fn.writer) (g.W.Write.contents l.writer)
