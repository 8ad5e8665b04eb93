use Rattle.std.proofs.Common.{◌≡◌, Option, Some, None, sym, ap, ◌∙◌, subst, rules}
use Rattle.std.specs.FinMap as fm
use Rattle.dist_model.specs.Monitoring.{bind}
use Rattle.dist_model.specs.Names.{Name}
use Rattle.dist_model.specs.Naming.{NameMap}
use Rattle.erl_term.specs.declared.term.Pid.{Pid}
use Rattle.monitor_core.specs.declared.monitor.Target.{Target}
use Rattle.node_plan.specs.Carried.{Carries}
use Rattle.node_plan.specs.Seen.{seen}
use Rattle.node_processes.proofs.Unchanged.{same_names, same_own}
use Rattle.node_processes.proofs.taking_monitors.take_monitor_name.Goals as goal

pub returns-in-Some-clause-carries : goal.returns-in-Some-clause-carries
returns-in-Some-clause-carries c = λ w h.
    let m = seen c.args.node.now in
    let plan = c.args.plan.now in
    let name = c.args.name.now in
    let there : fm.get m.names name ≡ Some c.in-Some.held.now = search rules in
    let holder = ap (λ (names : NameMap). fm.get names name) (same_names plan m w h c.requires.change) ∙ there in
    let own = c.atom-at.ensures ∙ c.name.ensures ∙ sym (same_own plan m w h c.requires.change c.requires.draws) in
    let P : Option Pid → Name → Type 0 =
    λ o a. Carries m (bind o c.args.owner.now (Target.Name name a) c.args.reference.now w) c.bind_to.new.plan c.bind_to.result in
    subst (λ o. P o w.node.mint.name) (sym holder) (subst (P (Some c.in-Some.held.now)) own (c.bind_to.ensures.carries w h))

pub returns-in-None-clause-carries : goal.returns-in-None-clause-carries
returns-in-None-clause-carries c = λ w h.
    let m = seen c.args.node.now in
    let plan = c.args.plan.now in
    let name = c.args.name.now in
    let there : fm.get m.names name ≡ None = search rules in
    let holder = ap (λ (names : NameMap). fm.get names name) (same_names plan m w h c.requires.change) ∙ there in
    let own = c.atom-at.ensures ∙ c.name.ensures ∙ sym (same_own plan m w h c.requires.change c.requires.draws) in
    let P : Option Pid → Name → Type 0 =
    λ o a. Carries m (bind o c.args.owner.now (Target.Name name a) c.args.reference.now w) c.tell_no_target.new.plan c.tell_no_target.result in
    subst (λ o. P o w.node.mint.name) (sym holder) (subst (P None) own (c.tell_no_target.ensures.carries w h))
