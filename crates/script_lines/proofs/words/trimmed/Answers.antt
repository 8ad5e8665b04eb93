use Rattle.std.proofs.Common.{◌≡◌, [], ◌∷◌, ◌++◌, None, Some, length, lit<, sym, ◌∙◌, ap, arith}
use Rattle.std.proofs.lemmas.List.{length-append}
use Rattle.std.proofs.lemmas.Str.Pattern.{strip_suffix_char}
use Rattle.script_lines.specs.Words.{trimmed}
use Rattle.script_lines.proofs.WordLemmas.{front_is_text, no_space_behind, space_behind}
use Rattle.script_lines.proofs.words.trimmed.Goals as goal

pub loop-before-preserved : goal.loop-before-preserved
loop-before-preserved c =
    let e : c.loop-before.rest.now ≡ c.in-Some.before.now ++ 32 ∷ [] =
    strip_suffix_char 32 c.loop-before.rest.now (Some c.in-Some.before) c.in-Some.ensures.cases (lit< tt) in (
      front_is_text c.loop-before.rest.now c.in-Some.before.now c.loop-before.invariant.0 e,
      sym (ap trimmed e ∙ space_behind c.in-Some.before.now) ∙ c.loop-before.invariant.1,
    )

pub loop-before-smaller : goal.loop-before-smaller
loop-before-smaller c =
    let e : c.loop-before.rest.now ≡ c.in-Some.before.now ++ 32 ∷ [] =
    strip_suffix_char 32 c.loop-before.rest.now (Some c.in-Some.before) c.in-Some.ensures.cases (lit< tt) in
    let n = ap length e in
    omega (arith, length-append c.in-Some.before.now (32 ∷ []))

pub returns : goal.returns
returns c =
    sym (no_space_behind c.loop-before.rest.now (strip_suffix_char 32 c.loop-before.rest.now None c.in_default.ensures.cases (lit< tt)))
    ∙ c.loop-before.invariant.1
