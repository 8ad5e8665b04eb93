use Rattle.std.proofs.Common.{◌≡◌, ◌≤◌, ◌*◌, take, length}
use Rattle.std.specs.Str.{encode_utf8_all}
use Rattle.erl_term.proofs.text.latin_len.Given as goal

abbrev pub invariant-loop-letter : goal.invariant-loop-letter
invariant-loop-letter l = (l.len ≡ length (encode_utf8_all (take l.letter-index l.fn.letters))) × (l.len ≤ 4 * l.letter-index)
