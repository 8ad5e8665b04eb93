-- Each item that an event sends on a connection has a spelling, since it is in flight in the world after the event.
use Rattle.std.proofs.Common.{◌≡◌, ◌&&◌, Bool, true, false, cond, List, [], ◌∷◌, ◌++◌, Option, None, Some, subst}
use Rattle.std.specs.FinMap.{FinMap}
use Rattle.dist_model.proofs.Envelopes as envelopes
use Rattle.dist_model.proofs.Keys.{same_name_refl, same_trunk, same_trunk_refl}
use Rattle.dist_model.proofs.Routes.{at_place, list_to_carried}
use Rattle.dist_model.specs.Items.{Item}
use Rattle.dist_model.specs.Names.{Name, place_cmp, same_name}
use Rattle.dist_model.specs.Node.{Node}
use Rattle.dist_model.specs.Commands.{Accepts, Outcome, Refuses}
use Rattle.dist_model.specs.NodeEvents.{at_node}
use Rattle.dist_model.specs.World.{Event, World, came_of, carried, left, list_to, met, node_name, node_of, step, step_at}
use Rattle.dist_model.specs.declared.report.Effect.{Effect}
use Rattle.erl_names.specs.declared.trunk.TrunkId.{TrunkId}
use Rattle.node_frames.specs.Frames.{IsSpelled}
use Rattle.run_traces.specs.Traces.{AreSentSpelled, effects_of}
use Rattle.world_core.proofs.Carried.{spelled_behind}
use Rattle.world_core.specs.Stands.{AreSpelled, StandsFor}
use Rattle.world_core.specs.declared.world.World.{World as Code}

head_spelled : (b : Bool) (x : Item) (rest : List Item) → b ≡ true → AreSpelled (cond b (x ∷ []) [] ++ rest) → IsSpelled x
head_spelled true x rest e h = h.0
head_spelled false x rest e h = cc

rest_spelled : (b : Bool) (x : Item) (rest : List Item) → AreSpelled (cond b (x ∷ []) [] ++ rest) → AreSpelled rest
rest_spelled true x rest h = h.1
rest_spelled false x rest h = h

in_flight : (effects : List (Effect Item)) → ((t : TrunkId) (y : Name) → AreSpelled (at_place t y (envelopes.sent_in effects)))
    → AreSentSpelled effects
in_flight [] h = tt
in_flight (Effect.Sent (Some u) z x ∷ rest) h = (
  head_spelled (same_trunk u u && same_name z z) x (at_place u z (envelopes.sent_in rest)) (λ i. same_trunk_refl u i && same_name_refl z i) (h u z),
  in_flight rest (λ t y. rest_spelled (same_trunk t u && same_name y z) x (at_place t y (envelopes.sent_in rest)) (h t y)),
)
in_flight (effect ∷ rest) h = (tt, in_flight rest h)

carried_spelled : (lists : FinMap place_cmp (List Item)) (effects : List (Effect Item))
    → ((t : TrunkId) (y : Name) → AreSpelled (list_to (carried lists effects) t y)) → AreSentSpelled effects
carried_spelled lists effects h =
    in_flight effects (λ t y. spelled_behind (list_to lists t y) (at_place t y (envelopes.sent_in effects))
    (subst AreSpelled (list_to_carried lists effects t y) (h t y)))

pub sent_spelled : (new : Code) (m : World) (e : Event) → StandsFor new (step m e).world → AreSentSpelled (effects_of (step m e).report)
sent_spelled new m e h = at (node_of m.nodes (node_name e)) h.spelled
  where
    came : (o : Outcome)
        → ((t : TrunkId) (y : Name) → AreSpelled (list_to (came_of m (node_name e) (left m e) o).world.lists t y))
        → AreSentSpelled (effects_of (came_of m (node_name e) (left m e) o).report)
    came (Refuses why) k = tt
    came (Accepts answer work) k = carried_spelled (left m e) work.effects k

    at : (found : Option Node) → ((t : TrunkId) (y : Name) → AreSpelled (list_to (step_at m found e).world.lists t y))
        → AreSentSpelled (effects_of (step_at m found e).report)
    at None k = tt
    at (Some node) k = came (at_node m.names node (met m e)) k
