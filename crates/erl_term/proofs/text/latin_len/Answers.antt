use Rattle.std.proofs.Common.{ℕ, length, ap, ◌∙◌, arith}
use Rattle.std.proofs.Math.Utf8.{encode}
use Rattle.erl_term.proofs.Latin.{latin_longer}
use Rattle.erl_term.proofs.text.latin_len.Goals as goal

pub loop-letter-preserved : goal.loop-letter-preserved
loop-letter-preserved c =
    let most = c.len_utf8-len.ensures.upper_bound in
    let one = c.len_utf8-len.ensures.len ∙ ap (λ (k : ℕ). length (encode k)) c.from.ensures in (
      latin_longer c.args.letters.now c.loop-letter.letter-index c.loop-letter.len c.len_utf8-len.result
          c.loop-letter-test.true one c.loop-letter.invariant.0,
      omega arith,
    )
