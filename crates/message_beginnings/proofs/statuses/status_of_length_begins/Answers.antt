use Rattle.std.proofs.Common.{◌∙◌, sym}
use Rattle.message_beginnings.proofs.Texts.{text_begins_of, begun_text_of}
use Rattle.message_beginnings.proofs.statuses.status_of_length_begins.Goals as goal

pub returns : goal.returns
returns c =
    let len = c.args.len in
    let bytes = c.args.bytes.now in
    let e = c.one_begins_of.ensures in
    (λ r. text_begins_of len bytes (sym e ∙ r), λ b. e ∙ begun_text_of len bytes b)
