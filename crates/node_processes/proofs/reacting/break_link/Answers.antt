use Rattle.std.proofs.Common.{◌≡◌, subst, rules, ap, ◌∙◌}
use Rattle.dist_model.specs.Exits.{link_exit}
use Rattle.dist_model.specs.Work.{set_end}
use Rattle.erl_control.specs.Fits.{fits}
use Rattle.erl_term.specs.Data.{Data}
use Rattle.link_core.specs.News.{noconnection}
use Rattle.link_core.specs.declared.end.End.{End}
use Rattle.node_plan.specs.Carried.{Carries}
use Rattle.node_plan.specs.Seen.{seen}
use Rattle.node_processes.proofs.Reactions.{noconnection_fits}
use Rattle.node_processes.proofs.reacting.break_link.Goals as goal

pub link_exit-requires-clause-fits : goal.link_exit-requires-clause-fits
link_exit-requires-clause-fits c =
    let is : c.in_ok-reason.reason ≡ noconnection = search rules in
    ap fits is ∙ noconnection_fits

pub returns-clause-carries : goal.returns-clause-carries
returns-clause-carries c = λ w h.
    let m = seen c.args.node.now in
    let p = c.args.process.now in
    let q = c.args.partner.now in
    let is : c.in_ok-reason.reason ≡ noconnection = search rules in
    let P : Data → Type 0 = λ x. Carries m (link_exit p q x (set_end p q End.None w)) c.link_exit.new.plan c.link_exit.result in
    subst P is (c.link_exit.ensures.carries _ (c.in_ok-change_end.ensures.carries m w c.requires.living h))
