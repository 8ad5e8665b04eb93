-- What is planned of an event can be carried out, and the node still keeps what any node does.
use Rattle.std.proofs.Common.{◌≡◌, ℕ, List, OnOk, Result, Ok, Err, Some, subst}
use Rattle.dist_model.proofs.KeepCounted.{counted_kept}
use Rattle.dist_model.proofs.KeepSteady.{steady_kept}
use Rattle.dist_model.specs.Items.{Item}
use Rattle.dist_model.specs.Keeping.{ComesOfOthers, CountsOwn, Steady}
use Rattle.dist_model.specs.Names.{Name}
use Rattle.dist_model.specs.Node.{Node}
use Rattle.dist_model.specs.NodeEvents.{Arrive, NodeEvent, at_node}
use Rattle.erl_names.specs.declared.trunk.TrunkId.{TrunkId}
use Rattle.erl_term.specs.declared.refusal.Refusal.{Refusal}
use Rattle.node_core.specs.Staying.{Stays}
use Rattle.node_plan.specs.Planned.{IsPlanned, Plans}
use Rattle.node_plan.specs.declared.plan.Plan.{Plan}

-- an event at which no item of a trunk comes
pub comes_of_none : (m : Node) (event : NodeEvent)
    → ((t : TrunkId) (item : Item) (word : ℕ) → event ≡ Arrive t (Some item) word → ⊥) → ComesOfOthers m event
comes_of_none m event no_item = λ t c d. absurd (no_item t c.0 c.1 c.2)

pub stays_by : (names : List Name) (m : Node) (event : NodeEvent) (plan : Plan)
    → Steady m → CountsOwn m → ComesOfOthers m event → IsPlanned m (at_node names m event) plan → Stays plan m
stays_by names m event plan steady counts others h = record {
  sound = h.makes.sound;
  sides = h.makes.sides;
  dials = h.makes.dials;
  steady = subst Steady h.makes.node (steady_kept names m event h.answer h.work steady h.accepts);
  counted = subst CountsOwn h.makes.node (counted_kept names m event h.answer h.work h.accepts counts others);
}

pub stays : (names : List Name) (m : Node) (event : NodeEvent) (plan : Plan) (planned : Result (Unit {0}) Refusal)
    → Steady m → CountsOwn m → ComesOfOthers m event → Plans m (at_node names m event) plan planned → OnOk planned (Stays plan m)
stays names m event plan (Ok done) steady counts others h = stays_by names m event plan steady counts others h
stays names m event plan (Err e) steady counts others h = tt
