use Rattle.std.proofs.Common.{◌∙◌, sym}
use Rattle.message_beginnings.proofs.Texts.{text_begins, begun_text}
use Rattle.message_beginnings.proofs.statuses.status_begins.Goals as goal

pub returns : goal.returns
returns c =
    let bytes = c.args.bytes.now in
    let e = c.one_begins.ensures in
    (λ r. text_begins bytes (sym e ∙ r), λ b. e ∙ begun_text bytes b)
