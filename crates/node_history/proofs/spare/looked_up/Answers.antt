use Rattle.std.proofs.Common.{◌≡◌, [], ap, rules, ◌∙◌}
use Rattle.dist_model.specs.Node.{ends_of}
use Rattle.node_core.specs.Model.{model_of}
use Rattle.node_history.proofs.AnsweredTwice.{not_looked}
use Rattle.node_history.proofs.ThereBefore.{looks}
use Rattle.node_history.proofs.spare.looked_up.Goals as goal

pub returns-in-Ok-clause-same : goal.returns-in-Ok-clause-same
returns-in-Ok-clause-same c =
    let d = c.in-Ok.ensures [] in
    d.node ∙ (looks [] (model_of c.args.node.now) c.in_ok-clone.field-0 d.answer d.work d.accepts).0

pub returns-in-Ok-clause-links : goal.returns-in-Ok-clause-links
returns-in-Ok-clause-links c = λ up living.
    let m = model_of c.args.node.now in
    let d = c.in-Ok.ensures [] in
    let l = looks [] m c.in_ok-clone.field-0 d.answer d.work d.accepts in
    let same : c.in_ok-clone.field-0 ≡ c.args.process.now = search rules in
    c.links_in.ensures (ends_of m c.in_ok-clone.field-0) (d.told ∙ l.1) ∙ ap (ends_of m) same

pub returns-in-Err-clause-same : goal.returns-in-Err-clause-same
returns-in-Err-clause-same c = (c.in-Err.ensures []).1

pub returns-in-Err-clause-links : goal.returns-in-Err-clause-links
returns-in-Err-clause-links c =
    let same : c.in_ok-clone.field-0 ≡ c.args.process.now = search rules in
    not_looked c.unless_wanting.result (model_of c.args.node.now) c.in_ok-clone.field-0 c.args.process.now c.in-Err.e same
    (c.in-Err.ensures []).0 c.unless_wanting.ensures.ok
