use Rattle.std.proofs.Common.{◌∙◌, length-set, arith, take}
use Rattle.std.proofs.lemmas.Result.{err_from_is_err_and}
use Rattle.erl_term.specs.Reading.{read_words}
use Rattle.erl_term.proofs.Loop.{word_goes_on, word_ends, words_done}
use Rattle.erl_term.proofs.parts.words_of.Goals as goal

pub returns-in_err-word : goal.returns-in_err-word
returns-in_err-word c =
    let p = err_from_is_err_and c.from_residual.result c.from_residual.ensures.1 in
    rw (p.1, p.2) (word_ends
    (take c.loop-i.i c.loop-i.words) c.args.count c.loop-i.i c.in_err-word.field-0.0 c.loop-i.rest.now
    (read_words c.args.count c.args.bytes.now) c.loop-i-test.true c.in_err-word.ensures c.loop-i.invariant.1)

pub loop-i-preserved : goal.loop-i-preserved
loop-i-preserved c =
    let len = c.loop-i.invariant.0 in
    let few = c.requires.few in
    let lt = c.loop-i-test.true in (
      length-set c.loop-i.words c.loop-i.i c.in_ok-word.word ∙ len,
      word_goes_on c.loop-i.words c.args.count c.loop-i.i c.in_ok-word.word c.loop-i.rest.now c.in_ok-word.after.now
          (read_words c.args.count c.args.bytes.now) lt (omega arith) c.in_ok-word.ensures c.loop-i.invariant.1,
    )

pub returns : goal.returns
returns c =
    let le = c.loop-i.auto.i-end in
    let ge = c.loop-i-test.false in
    rw c.of.ensures (words_done c.loop-i.words c.args.count c.loop-i.i c.loop-i.rest.now
    (read_words c.args.count c.args.bytes.now) (omega arith) c.loop-i.invariant.1)
