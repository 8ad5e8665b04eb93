use Rattle.std.proofs.Common.{◌≡◌, Option, Some, None, sym, ap, ◌∙◌, subst, rules}
use Rattle.std.specs.FinMap as fm
use Rattle.dist_model.specs.Naming.{NameMap}
use Rattle.dist_model.specs.Taking.{take_named}
use Rattle.erl_term.specs.declared.term.Pid.{Pid}
use Rattle.node_plan.specs.Carried.{Carries, CarriesOut}
use Rattle.node_plan.specs.Seen.{seen}
use Rattle.node_processes.proofs.Unchanged.{same_names}
use Rattle.node_processes.proofs.taking.take_named.Goals as goal

pub returns-in-Some-clause-carries : goal.returns-in-Some-clause-carries
returns-in-Some-clause-carries c = λ source from w h.
    let m = seen c.args.node.now in
    let there : fm.get m.names c.args.name.now ≡ Some c.in-Some.process.now = search rules in
    let holder =
    ap (λ (names : NameMap). fm.get names c.args.name.now) (same_names c.args.plan.now m w h c.requires.change) ∙ there in
    let P : Option Pid → Type 0 =
    λ o. Carries m (take_named o c.args.message.now w) c.take_message.new.plan c.take_message.result in
    subst P (sym holder) (c.take_message.ensures.carries source w h)

pub returns-in-None-clause-carries : goal.returns-in-None-clause-carries
returns-in-None-clause-carries c = λ source from w h.
    let m = seen c.args.node.now in
    let there : fm.get m.names c.args.name.now ≡ None = search rules in
    let holder =
    ap (λ (names : NameMap). fm.get names c.args.name.now) (same_names c.args.plan.now m w h c.requires.change) ∙ there in
    let P : Option Pid → Type 0 = λ o. CarriesOut c.args.plan.now m (take_named o c.args.message.now w) in
    subst P (sym holder) h
