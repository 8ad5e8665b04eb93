use Rattle.std.proofs.Common.{◌∙◌, ap, map}
use Rattle.std.proofs.lemmas.List.{take_rest}
use Rattle.std.proofs.lemmas.Result.{IfOk-weaker}
use Rattle.node_core.specs.Model.{model_of}
use Rattle.script_session.proofs.Untouched.{next_behind}
use Rattle.script_session.proofs.stage.Stage.turn.Goals as goal
use Rattle.script_session.specs.Turns.{first_turn}

pub returns : goal.returns
returns c = λ it h rests.
    let nodes = c.nodes-nodes.result.now in
    let next =
    ap (λ rest. first_turn it.world it.word (map model_of rest)) (take_rest nodes c.args.idle)
    ∙ next_behind it c.args.self.now c.args.idle nodes h rests c.nodes-nodes.ensures in
    IfOk-weaker c.first_turn.result _ _ (λ found e. e ∙ next) (c.first_turn.ensures it h)
