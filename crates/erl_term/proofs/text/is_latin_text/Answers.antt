use Rattle.std.proofs.Common.{◌≡◌, length, rules, tests, arith, sym, ap, ◌∙◌}
use Rattle.std.proofs.lemmas.Iterator.{YieldsList-from_slice, YieldsList-from_chars, YieldsList-from_zip, same_from_all}
use Rattle.std.proofs.lemmas.Bool.{eqb-true}
use Rattle.std.proofs.lemmas.Str.{chars_from_encodes}
use Rattle.std.specs.Str.{IsUtf8, chars}
use Rattle.erl_term.specs.Text.{latin_text}
use Rattle.erl_term.proofs.Pieces.{latin_chars, chars_latin}
use Rattle.erl_term.proofs.text.is_latin_text.Goals as goal

pub returns-then-count-letters : goal.returns-then-count-letters
returns-then-count-letters c =
    let letters = c.args.letters.now in
    let utf8 = c.args.utf8.now in
    let is_text : IsUtf8 utf8 = search rules in
    let count : c.count.result ≡ length (chars utf8) = search (rules, chars_from_encodes) in
    let same = same_from_all c.all.new.self _ c.all.result letters (chars utf8) c.all.ensures.ran
    (YieldsList-from_zip (YieldsList-from_slice letters (search rules)) (YieldsList-from_chars utf8 is_text (search rules)))
    (omega arith) (λ x q k. search (rules, tests)) (λ x q k. search (rules, tests)) in (
      λ e. ap latin_text (same.0 e) ∙ chars_latin utf8 is_text,
      λ e. same.1 (sym (latin_chars letters (λ i. omega (arith, c.type_inv.letters i))) ∙ ap chars e),
    )

pub returns-else-count-letters : goal.returns-else-count-letters
returns-else-count-letters c =
    let letters = c.args.letters.now in
    let utf8 = c.args.utf8.now in
    let is_text : IsUtf8 utf8 = search rules in
    let count : c.count.result ≡ length (chars utf8) = search (rules, chars_from_encodes) in
    let never = c.if-count-letters.false in (
      λ e. absurd (never (eqb-true _ _ e)),
      λ e. absurd (never (count ∙ sym (ap length (sym (latin_chars letters (λ i. omega (arith, c.type_inv.letters i))) ∙ ap chars e)))),
    )
