use Rattle.std.proofs.Common.{◌≡◌, subst, rules}
use Rattle.dist_model.specs.Exits.{link_exit}
use Rattle.dist_model.specs.Work.{set_end}
use Rattle.erl_term.specs.Data.{Data}
use Rattle.link_core.specs.declared.end.End.{End}
use Rattle.node_plan.specs.Carried.{Carries}
use Rattle.node_plan.specs.Seen.{seen}
use Rattle.node_processes.proofs.taking.take_active_exit.Goals as goal

pub returns-clause-carries : goal.returns-clause-carries
returns-clause-carries c = λ w h.
    let m = seen c.args.node.now in
    let p = c.args.to.now in
    let q = c.args.from.now in
    let same : c.in_ok-reason.reason ≡ c.args.reason.now = search rules in
    let P : Data → Type 0 = λ x. Carries m (link_exit p q x (set_end p q End.None w)) c.link_exit.new.plan c.link_exit.result in
    subst P same (c.link_exit.ensures.carries _ (c.in_ok-change_end.ensures.carries m w c.requires.living h))
