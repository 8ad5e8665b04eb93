use Rattle.std.proofs.Common.{◌≡◌, ℕ, Some, OnOk, Result, sym, subst, []}
use Rattle.dist_model.specs.Items.{Item}
use Rattle.dist_model.specs.NodeEvents as event
use Rattle.dist_model.specs.NodeEvents.{at_node}
use Rattle.erl_names.specs.declared.trunk.TrunkId.{TrunkId}
use Rattle.erl_term.specs.declared.refusal.Refusal.{Refusal}
use Rattle.node_plan.specs.Planned.{Plans}
use Rattle.node_plan.specs.Seen.{seen}
use Rattle.node_core.specs.Staying.{Stays}
use Rattle.node_core.proofs.NodeKept.{comes_of_none, stays}
use Rattle.node_core.proofs.sweeping.plan_sweep.Goals as goal

no_item : (t : TrunkId) (item : Item) (word : ℕ) → event.Sweep ≡ event.Arrive t (Some item) word → ⊥
no_item t item word h = cc

pub sweep_if_up-swept-requires-clause-carries : goal.sweep_if_up-swept-requires-clause-carries
sweep_if_up-swept-requires-clause-carries c = c.requires.new.carries (seen c.args.node.now)

pub settle-requires-clause-stays : goal.settle-requires-clause-stays
settle-requires-clause-stays c =
    let node = c.args.node.now in
    let P : Result (Unit {0}) Refusal → Type 0 = (λ r. OnOk r (Stays c.sweep_if_up-swept.new.plan (seen node))) in
    subst P (sym c.parted-made.ensures.planned) (stays [] (seen node) event.Sweep _ _ node.steady node.counted
    (comes_of_none (seen node) event.Sweep no_item) c.sweep_if_up-swept.ensures.plans)

pub returns-clause-plan : goal.returns-clause-plan
returns-clause-plan c = λ names.
    let m = seen c.args.node.now in
    let due = at_node names m event.Sweep in
    let P : Result (Unit {0}) Refusal → Type 0 = (λ r. Plans m due c.sweep_if_up-swept.new.plan r) in
    c.settle.ensures.plan due (subst P (sym c.parted-made.ensures.planned) c.sweep_if_up-swept.ensures.plans)
