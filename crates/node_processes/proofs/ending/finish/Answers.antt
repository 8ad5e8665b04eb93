use Rattle.std.proofs.Common.{sym, subst}
use Rattle.dist_model.specs.Node.{ends_of}
use Rattle.dist_model.specs.Work.{post_all}
use Rattle.node_plan.specs.Carried.{Carries, CarriesOut}
use Rattle.node_plan.specs.Parts.{link_in}
use Rattle.node_processes.specs.Exiting.{exits_to}
use Rattle.node_plan.specs.Seen.{seen}
use Rattle.node_processes.proofs.LastSignals.{finishes}
use Rattle.node_processes.proofs.ending.finish.Goals as goal

pub returns-clause-carries : goal.returns-clause-carries
returns-clause-carries c = λ w h.
    let m = seen c.args.node.now in
    let p = c.args.process.now in
    let x = c.args.reason in
    let planned = link_in c.args.plan.now.change in
    let told = post_all (exits_to planned p x (ends_of m p)) w in
    let one : CarriesOut c.post_exits.new.plan m told = c.in_ok-post_exits.ensures.carries w h in
    subst (λ v. Carries m v c.bury.new.self c.bury.result)
    (sym (finishes c.args.plan.now m w p x h c.requires.free c.requires.link c.requires.watches c.requires.watchers))
    (c.bury.ensures.carries m _ c.requires.living
    (c.in_ok-post_demonitors.ensures.carries _ (c.in_ok-post_monitor_exits.ensures.carries told one)))
