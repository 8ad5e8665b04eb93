use Rattle.std.proofs.Common.{ap, ◌∙◌, string_bytes}
use Rattle.std.proofs.lemmas.Result.{IfOk-weaker}
use Rattle.item_decoder.proofs.Plain.{in_told}
use Rattle.serde_json.specs.Written.{compact_text, has_float}
use Rattle.item_decoder.proofs.objects.text.Goals as goal

pub returns : goal.returns
returns c =
    let told = c.args.told.now in
    let is = c.in_ok-object.ensures in
    let plain = ap has_float is ∙ in_told c.args.at told.answer told.place (string_bytes told.why) in
    IfOk-weaker c.to_string.result _ _ (λ s h. h plain ∙ ap compact_text is) c.to_string.ensures.text
