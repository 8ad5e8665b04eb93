use Rattle.std.proofs.Common.{◌∙◌, ap}
use Rattle.std.proofs.lemmas.Result.{IfOk-weaker}
use Rattle.script_json.proofs.Floats.{in_node}
use Rattle.script_json.specs.Reports.{node_text}
use Rattle.serde_json.specs.Written.{compact_text, has_float}
use Rattle.script_json.proofs.lines.text_of_node.Goals as goal

pub returns : goal.returns
unfolding node_text
returns c =
    let same = c.in_ok-node_of.ensures in
    IfOk-weaker c.to_string.result _ _
    (λ s h. h (ap has_float same ∙ in_node c.args.node.now c.args.line c.args.cookie.now c.args.profile) ∙ ap compact_text same)
    c.to_string.ensures.text
