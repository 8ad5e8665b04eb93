use Rattle.std.proofs.Common.{◌≡◌, ◌++◌, take, string_bytes}
use Rattle.script_terms.specs.Printing.{numbers_text}
use Rattle.script_terms.proofs.printing.put_words.Given as goal

abbrev pub invariant-loop-word : goal.invariant-loop-word
invariant-loop-word l = string_bytes l.out ≡ string_bytes l.fn.out ++ numbers_text 46 (take l.word-index l.words)
