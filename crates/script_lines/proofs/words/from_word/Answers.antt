use Rattle.std.proofs.Common.{◌≡◌, ◌∷◌, None, Some, length, lit<, sym, ◌∙◌, ap, arith}
use Rattle.std.proofs.lemmas.Str.{IsUtf8-past_char}
use Rattle.std.proofs.lemmas.Str.Pattern.{strip_prefix_char}
use lib.Utf8.{encode}
use Rattle.script_lines.specs.Words.{from_word}
use Rattle.script_lines.proofs.WordLemmas.{no_space}
use Rattle.script_lines.proofs.words.from_word.Goals as goal

pub loop-behind-preserved : goal.loop-behind-preserved
unfolding encode
loop-behind-preserved c =
    let e : c.loop-behind.rest.now ≡ 32 ∷ c.in-Some.behind.now =
    strip_prefix_char 32 c.loop-behind.rest.now (Some c.in-Some.behind) c.in-Some.ensures.cases (lit< tt) in (
      IsUtf8-past_char c.loop-behind.rest.now c.in-Some.behind.now 32 c.loop-behind.invariant.0 e,
      sym (ap from_word e) ∙ c.loop-behind.invariant.1,
    )

pub loop-behind-smaller : goal.loop-behind-smaller
loop-behind-smaller c =
    let e : c.loop-behind.rest.now ≡ 32 ∷ c.in-Some.behind.now =
    strip_prefix_char 32 c.loop-behind.rest.now (Some c.in-Some.behind) c.in-Some.ensures.cases (lit< tt) in
    let n = ap length e in
    omega arith

pub returns : goal.returns
returns c =
    sym (no_space c.loop-behind.rest.now (strip_prefix_char 32 c.loop-behind.rest.now None c.in_default.ensures.cases (lit< tt)))
    ∙ c.loop-behind.invariant.1
