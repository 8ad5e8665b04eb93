use Rattle.std.proofs.Common.{◌≡◌, ap, ◌∙◌, rules, subst}
use Rattle.std.specs.FinMap as fm
use Rattle.dist_model.specs.Calls.{taking, with_names}
use Rattle.dist_model.specs.Commands.{Accepts}
use Rattle.dist_model.specs.Names.{Name}
use Rattle.dist_model.specs.Naming.{name_of}
use Rattle.dist_model.specs.declared.report.Answer.{Answer}
use Rattle.erl_term.specs.declared.term.Pid.{Pid}
use Rattle.node_plan.specs.Carried.{CarriesOut}
use Rattle.node_plan.specs.Seen.{seen}
use Rattle.node_plan.proofs.Outcomes.{lacks, planned}
use Rattle.node_processes.proofs.naming.register.Goals as goal

pub returns-in-Ok : goal.returns-in-Ok
returns-in-Ok c =
    let m = seen c.args.node.now in
    let p = c.args.process.now in
    let name = c.args.name.now in
    let naming = c.in-Ok.naming in
    let work = with_names m (fm.insert m.names name p) in
    let end = Accepts Answer.Done work in
    let named : naming.name ≡ name = search rules in
    let held : naming.process ≡ p = search rules in
    let free = ap (fm.get m.names) named ∙ c.in_ok-takes.ensures.free in
    let nameless = ap (name_of m.names) held ∙ c.in_ok-takes.ensures.nameless in
    let P : Name → Pid → Type 0 = λ a q. CarriesOut c.take_name.new.self m (with_names m (fm.insert m.names a q)) in
    planned m _ Answer.Done work c.take_name.new.self (c.in_ok-acts.ensures.due (taking m p name end) ∙ c.in_ok-takes.ensures.due end)
    (c.take_name.ensures.told m ∙ c.requires.told)
    (subst (λ a. P a p) named (subst (P naming.name) held (c.take_name.ensures.carries m free nameless c.requires.carries)))

pub returns-in-Err : goal.returns-in-Err
returns-in-Err c =
    let m = seen c.args.node.now in
    let p = c.args.process.now in
    let name = c.args.name.now in
    let work = with_names m (fm.insert m.names name p) in
    let end = Accepts Answer.Done work in
    lacks _ Answer.Done work (c.in_ok-acts.ensures.due (taking m p name end) ∙ c.in_ok-takes.ensures.due end)
