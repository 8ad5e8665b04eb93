use Rattle.std.proofs.Common.{◌≡◌, ℕ, Bool, true, false, ◌||◌, Some, List, ap, refl, [], ◌∷◌}
use Rattle.dist_model.proofs.Keys.{same_name_refl}
use Rattle.dist_model.specs.Dialing.{has_name}
use Rattle.dist_model.specs.Items.{Item}
use Rattle.dist_model.specs.Names.{Name}
use Rattle.dist_model.specs.Work.{at_work}
use Rattle.erl_names.specs.declared.trunk.TrunkId.{TrunkId}
use Rattle.dist_model.specs.NodeEvents as event
use Rattle.dist_model.specs.NodeEvents.{at_node}
use Rattle.node_plan.specs.Seen.{seen}
use Rattle.node_plan.proofs.PlanMakes.{makes_it}
use Rattle.node_core.proofs.NodeKept.{comes_of_none, stays}
use Rattle.node_core.proofs.dialing.plan_dial.Goals as goal

no_item : (peer : Name) (w : ℕ) (t : TrunkId) (item : Item) (word : ℕ) → event.Dial peer w ≡ event.Arrive t (Some item) word → ⊥
no_item peer w t item word h = cc

-- some names of which the peer's is one, or isn't
pub some_names : Bool → Name → List Name
some_names true peer = peer ∷ []
some_names false peer = []

pub has_it : (b : Bool) (peer : Name) → has_name peer (some_names b peer) ≡ b
unfolding some_names
has_it true peer = ap (λ b. b || false) (same_name_refl peer)
has_it false peer = refl

pub dial_if_up-made-requires-clause-dials : goal.dial_if_up-made-requires-clause-dials
dial_if_up-made-requires-clause-dials c = (c.requires.carries (seen c.args.node.now)).calm

pub dial_if_up-made-requires-clause-makes : goal.dial_if_up-made-requires-clause-makes
dial_if_up-made-requires-clause-makes c = let m = seen c.args.node.now in makes_it _ m (at_work m) (c.requires.carries m)

pub settle-requires-clause-stays : goal.settle-requires-clause-stays
settle-requires-clause-stays c =
    let node = c.args.node.now in
    let e = event.Dial c.args.peer.now c.args.word in
    let names = some_names c.args.is_known c.args.peer.now in
    stays names (seen node) e _ _ node.steady node.counted (comes_of_none (seen node) e (no_item c.args.peer.now c.args.word))
    (c.dial_if_up-made.ensures names (has_it c.args.is_known c.args.peer.now))

pub returns-clause-plan : goal.returns-clause-plan
returns-clause-plan c =
    λ names h. c.settle.ensures.plan (at_node names (seen c.args.node.now) (event.Dial c.args.peer.now c.args.word))
    (c.dial_if_up-made.ensures names h)
