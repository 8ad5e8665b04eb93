use Rattle.std.proofs.Common.{◌≡◌, ◌++◌, take, string_bytes}
use Rattle.script_terms.specs.Printing.{numbers_text}
use Rattle.script_terms.proofs.printing.put_more_bytes.Given as goal

abbrev pub invariant-loop-byte : goal.invariant-loop-byte
invariant-loop-byte l = string_bytes l.out ≡ string_bytes l.fn.out ++ numbers_text 44 (take l.byte-index l.bytes)
