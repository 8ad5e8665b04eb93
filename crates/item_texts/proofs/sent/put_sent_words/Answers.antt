use Rattle.std.proofs.Common.{◌≡◌, ◌++◌, ◌∙◌, ap, ℕ, List, rules, OnOk, string_bytes, subst}
use Rattle.hex.specs.Hex.{encode_upper}
use Rattle.item_texts.specs.Words.{item_text, line_text}
use Rattle.node_frames.specs.Frames.{bytes_of}
use Rattle.item_texts.proofs.sent.put_sent_words.Goals as goal

pub returns : goal.returns
returns c = λ item s b.
    let hex : c.as_str.result.now ≡ encode_upper (bytes_of item) = search rules in
    let words : c.as_str-2.result.now ≡ item_text item =
    c.as_str-2.ensures.value ∙ c.in_ok-put_item.ensures item s b ∙ ap (λ (before : List ℕ). before ++ item_text item) c.new-words.ensures.bytes in
    subst (λ (text : List ℕ). OnOk c.put_line.result (string_bytes c.put_line.new.out ≡ string_bytes c.args.out.now ++ text))
    (λ i. line_text c.args.node.now c.args.peer.now (hex i) (words i)) c.put_line.ensures
