use Rattle.std.proofs.Common.{◌≡◌, ap, ◌∙◌, rules, refl}
use Rattle.std.specs.FinMap as fm
use Rattle.dist_model.specs.Work.{at_work}
use Rattle.dist_model.specs.declared.report.Answer.{Answer}
use Rattle.node_plan.specs.Seen.{seen}
use Rattle.node_plan.proofs.Outcomes.{lacks, planned}
use Rattle.node_processes.proofs.naming.where_is.Goals as goal

pub returns-in-Ok : goal.returns-in-Ok
returns-in-Ok c =
    let m = seen c.args.node.now in
    let answer = Answer.Holder (fm.get m.names c.args.name.now) in
    let holder : c.in-Ok.holder ≡ fm.get m.names c.args.name.now = search rules in
    planned m _ answer (at_work m) c.answers.new.self refl
    (c.answers.ensures.told m ∙ ap Answer.Holder holder)
    (c.answers.ensures.carries m (at_work m) c.requires.carries)

pub returns-in-Err : goal.returns-in-Err
returns-in-Err c =
    let m = seen c.args.node.now in
    let answer = Answer.Holder (fm.get m.names c.args.name.now) in
    lacks _ answer (at_work m) refl
