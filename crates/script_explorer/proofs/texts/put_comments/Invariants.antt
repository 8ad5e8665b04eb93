use Rattle.std.proofs.Common.{◌≡◌, ◌++◌, drop, true}
use Rattle.script_explorer.specs.Texts.{marked}
use Rattle.script_explorer.proofs.texts.put_comments.Given as goal

abbrev pub invariant-loop-byte : goal.invariant-loop-byte
invariant-loop-byte l = l.out.items ++ marked l.starts (drop l.byte-index l.text) ≡ l.initial.out.items ++ marked true l.text
