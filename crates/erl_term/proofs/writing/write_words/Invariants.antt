use Rattle.std.proofs.Common.{◌≡◌, ◌++◌, ◌+◌, ◌*◌, ◌≤◌, take, vec_len, vec_capacity}
use Rattle.erl_term.specs.Canonical.{words_text}
use Rattle.erl_term.proofs.writing.write_words.Given as goal

abbrev pub invariant-loop-word : goal.invariant-loop-word
invariant-loop-word l = record {
  items : l.out.items ≡ l.fn.out.items ++ words_text (take l.word-index l.words);
  len : vec_len l.out ≡ vec_len l.fn.out + 4 * l.word-index;
  capacity : vec_capacity l.fn.out ≤ vec_capacity l.out;
}
