use Rattle.std.proofs.Common.{◌≡◌, ap, ◌∙◌, rules, Ok, Option, ℕ}
use Rattle.std.specs.Option.{ok_or}
use Rattle.dist_model.specs.Calls.{toward}
use Rattle.dist_model.specs.Commands.{Accepts, Outcome, with_id}
use Rattle.dist_model.specs.Monitoring.{monitor}
use Rattle.dist_model.specs.Work.{at_work, draw}
use Rattle.dist_model.specs.declared.report.Answer.{Answer}
use Rattle.erl_names.specs.Draw as kind
use Rattle.erl_names.specs.Ids.{reference_of}
use Rattle.erl_names.specs.Minted.{id_of}
use Rattle.erl_term.specs.declared.refusal.Refusal.{Refusal}
use Rattle.monitor_core.specs.declared.monitor.Target.{Target}
use Rattle.node_plan.specs.Seen.{seen}
use Rattle.node_plan.proofs.Outcomes.{told_by}
use Rattle.node_processes.proofs.NextNumber.{next_is}
use Rattle.node_processes.proofs.monitoring.monitor.Goals as goal

pub monitor_under-requires-clause-next : goal.monitor_under-requires-clause-next
monitor_under-requires-clause-next c =
    let m = seen c.args.node.now in
    let at : ok_or (id_of m.mint kind.Reference) Refusal.IdsUsedUp ≡ Ok c.in_ok-count.count = search rules in
    (next_is m.mint kind.Reference Refusal.IdsUsedUp c.in_ok-count.count at).is

pub monitor_under-requires-clause-below : goal.monitor_under-requires-clause-below
monitor_under-requires-clause-below c =
    let m = seen c.args.node.now in
    let at : ok_or (id_of m.mint kind.Reference) Refusal.IdsUsedUp ≡ Ok c.in_ok-count.count = search rules in
    (next_is m.mint kind.Reference Refusal.IdsUsedUp c.in_ok-count.count at).below

pub returns : goal.returns
returns c =
    let m = seen c.args.node.now in
    let p = c.args.owner.now in
    let q = c.args.target.now in
    let count = c.in_ok-count.count in
    let of : Option ℕ → Outcome =
    λ o. with_id o
    (λ n. Accepts (Answer.Reference (reference_of m.mint n)) (monitor (reference_of m.mint n) p (Target.Pid q) (draw kind.Reference (at_work m)))) in
    let at : ok_or (id_of m.mint kind.Reference) Refusal.IdsUsedUp ≡ Ok count = search rules in
    let next = next_is m.mint kind.Reference Refusal.IdsUsedUp count at in
    let due = of (id_of m.mint kind.Reference) in
    let work = monitor (reference_of m.mint count) p (Target.Pid q) (draw kind.Reference (at_work m)) in
    rw c.or_refuse.ensures (told_by m _ (Answer.Reference (reference_of m.mint count)) work c.monitor_under.new.plan c.monitor_under.result
    (c.in_ok-acts.ensures.due (toward m q due) ∙ c.in_ok-aims_at.ensures due ∙ ap of next.drawn) c.monitor_under.ensures.told
    (c.monitor_under.ensures.carries c.requires.carries))
