use Rattle.std.proofs.Common.{◌≡◌, ◌-◌, length, take}
use Rattle.erl_term.specs.Reading.{read_words}
use Rattle.erl_term.proofs.Loop.{with_words}
use Rattle.erl_term.proofs.parts.words_of.Given as goal

abbrev pub invariant-loop-i : goal.invariant-loop-i
invariant-loop-i l =
    (length l.words ≡ 5) × (with_words (take l.i l.words) (read_words (l.fn.count - l.i) l.rest) ≡ read_words l.fn.count l.fn.bytes)
