use Rattle.std.proofs.Common.{ℕ, ◌∙◌, ◌++◌, ap, arith}
use Rattle.std.proofs.Math.Utf8.{encode}
use Rattle.std.specs.String.{string_bytes}
use Rattle.erl_term.proofs.Pieces.{latin_more, latin_count}
use Rattle.erl_term.proofs.text.latin_text.Goals as goal

pub loop-letter-preserved : goal.loop-letter-preserved
loop-letter-preserved c =
    latin_more c.args.letters.now c.loop-letter.letter-index (string_bytes c.loop-letter.text)
    (string_bytes c.push.new.self) c.loop-letter-test.true c.loop-letter.invariant
    (c.in_ok-push.ensures.bytes ∙ ap (λ (k : ℕ). string_bytes c.loop-letter.text ++ encode k) c.from.ensures)

pub returns-clause-count : goal.returns-clause-count
returns-clause-count c =
    let le = c.loop-letter.auto.letter-index-end in
    latin_count c.args.letters.now c.loop-letter.letter-index (string_bytes c.loop-letter.text)
    (λ i. omega (arith, c.type_inv.letters i)) (omega (arith, c.loop-letter-test.false)) c.loop-letter.invariant
