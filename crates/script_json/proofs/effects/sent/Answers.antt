use Rattle.std.proofs.Common.{◌≡◌, ℕ, List, subst}
use Rattle.std.proofs.lemmas.Result.{IfOk-weaker}
use Rattle.std.specs.Option.{option_copied}
use Rattle.script_json.specs.Fields.{AreFields}
use Rattle.script_json.specs.Reports.{sent_data}
use Rattle.serde_json.specs.Data.{Data}
use Rattle.serde_json.specs.View.{view}
use Rattle.script_json.proofs.effects.sent.Goals as goal

pub returns : goal.returns
returns c =
    let trunk = option_copied c.args.trunk in
    let told = view c.in_ok-fields.fields in
    IfOk-weaker c.sent_parts.result _ _
    (λ v h. subst (λ (bytes : List ℕ). (fields : Data) × AreFields bytes fields × (view v ≡ sent_data trunk c.args.peer.now bytes fields))
    c.as_slice-bytes.ensures (told, c.in_ok-fields.ensures, h)) c.sent_parts.ensures
