use Rattle.std.proofs.Common.{subst}
use Rattle.std.proofs.lemmas.Result.{IfOk-weaker}
use Rattle.script_json.proofs.Floats.{in_line}
use Rattle.script_json.specs.Events.{event_data}
use Rattle.script_json.specs.Reports.{IsLineData, IsLineText}
use Rattle.serde_json.specs.View.{view}
use Rattle.script_json.proofs.lines.text.Goals as goal

pub returns : goal.returns
unfolding IsLineText
returns c happened is =
    let node = c.args.node.now in
    let came = c.args.came.now in
    let told = view c.in_ok-line_of.field-0 in
    let written : IsLineData node c.args.line (event_data happened) came told =
    subst (λ e. IsLineData node c.args.line e came told) is c.in_ok-line_of.ensures in
    IfOk-weaker c.to_string.result _ _ (λ s h. (told, written, h (in_line node c.args.line happened came told written)))
    c.to_string.ensures.text
