use Rattle.std.proofs.Common.{◌≡◌, ◌<◌, arith, ◌∷◌, []}
use Rattle.control_beginnings.specs.Parts.{IsTagText}
use Rattle.control_beginnings.proofs.Passing.{tells_true, not_told}
use Rattle.control_beginnings.proofs.Tagged.{byte_begun, word_begun, big_else}
use Rattle.control_beginnings.proofs.numbers.tag_text_begins.Goals as goal

pub returns-then-begins_word : goal.returns-then-begins_word
returns-then-begins_word c =
    let lt : c.args.tag < 256 = omega arith in
    tells_true (IsTagText c.args.tag) c.args.bytes.now
    (byte_begun c.args.tag c.args.bytes.now lt (c.begins_word.ensures.0 c.if-begins_word.true))

pub returns-then-begins_word-2 : goal.returns-then-begins_word-2
returns-then-begins_word-2 c =
    let lt : c.args.tag < 256 = omega arith in
    tells_true (IsTagText c.args.tag) c.args.bytes.now
    (word_begun c.args.tag c.args.bytes.now lt (c.begins_word-2.ensures.0 c.if-begins_word-2.true))

pub returns : goal.returns
returns c =
    let lt : c.args.tag < 256 = omega arith in
    big_else c.args.tag c.args.bytes.now c.big_tag_begins.result lt
    (not_told (λ w. w ≡ 97 ∷ c.args.tag ∷ []) c.begins_word.result c.args.bytes.now c.begins_word.ensures c.if-begins_word.false)
    (not_told (λ w. w ≡ 98 ∷ 0 ∷ 0 ∷ 0 ∷ c.args.tag ∷ []) c.begins_word-2.result c.args.bytes.now c.begins_word-2.ensures c.if-begins_word-2.false)
    c.big_tag_begins.ensures
