-- Code counts the nodes before the first that an event touches.
use Rattle.std.proofs.Common.{◌≡◌, ◌≤◌, ◌||◌, ◌+◌, ℕ, Bool, true, false, cond, not, nat_lt, List, [], ◌∷◌, map, drop, length}
use Rattle.std.proofs.Common.{None, Some, unwrap_or, refl, sym, ap, subst, ◌∙◌, arith}
use Rattle.std.proofs.lemmas.Bool.{ltb-false}
use Rattle.std.proofs.lemmas.List.{drop-map}
use Rattle.std.proofs.lemmas.List.Sums.{prefix_len-le-length}
use Rattle.std.proofs.lemmas.Simd.{map-map}
use Rattle.std.specs.List.{list_any, position, position_or_len}
use Rattle.dist_model.specs.Items.{Item}
use Rattle.dist_model.specs.Names.{Name, same_name}
use Rattle.dist_model.specs.World.{Event, Report, World, step}
use Rattle.dist_model.specs.declared.report.Effect.{Effect}
use Rattle.node_core.specs.Model.{model_of}
use Rattle.node_core.specs.declared.node.Node.{Node}
use Rattle.node_frames.specs.Frames.{shown}
use Rattle.script_session.proofs.Idle.{before, behind_idle, idle_after, names_in, names_kept}
use Rattle.script_session.specs.Stage.{Stage as TheStage, after}
use Rattle.script_session.specs.Stands.{Happened, IsStage}
use Rattle.run_traces.specs.Traces.{effects_of}
use Rattle.script_session.specs.Touched.{AreIdle, Turned, is_sent_to, is_touched}
use Rattle.script_session.specs.Turns.{first_turn, turn}
use Rattle.script_session.specs.declared.stage.Stage.{Stage}
use Rattle.node_core.proofs.EventNamed.{event_named}
use Rattle.world_core.specs.Names.{name_of, names_of}
use Rattle.node_core.specs.Told.{Answered, Tells}
use Rattle.node_core.specs.NodeEvents.{event_at}
use Rattle.world_core.specs.Stands.{StandsFor}
use Rattle.world_core.specs.declared.world.World.{World as Code}
use Rattle.node_core.specs.declared.node_event.NodeEvent.{NodeEvent}

-- an item and its frame are sent to the same node
sent_same : (name : Name) (effect : Effect Item) → is_sent_to name (shown effect) ≡ is_sent_to name effect
sent_same name (Effect.Sent (Some trunk) peer item) = refl
sent_same name _ = refl

any_same : (name : Name) (effects : List (Effect Item)) → list_any (is_sent_to name) (map shown effects) ≡ list_any (is_sent_to name) effects
any_same name [] = refl
any_same name (effect ∷ rest) = λ i. sent_same name effect i || any_same name rest i

pub count_same : (node : Name) (effects : List (Effect Item)) (names : List Name)
    → position_or_len (is_touched node (map shown effects)) names ≡ position_or_len (is_touched node effects) names
count_same node effects names = λ i. position_or_len (λ name. same_name name node || any_same name effects i) names

-- the place of the first that passes, or their number, is how many stand before it
pub counted : (test : Name → Bool) (nodes : List Node)
    → unwrap_or (position (λ node. test (name_of node)) nodes) (length nodes) ≡ position_or_len test (names_of nodes)
counted test nodes = go (nat_lt first (length nodes)) refl ∙ same nodes
  where
    first : ℕ
    first = position_or_len (λ node. test (name_of node)) nodes

    go : (b : Bool) → nat_lt first (length nodes) ≡ b → unwrap_or (cond b (Some first) None) (length nodes) ≡ first
    go true h = refl
    go false h =
        let most : first ≤ length nodes = prefix_len-le-length (λ node. not (test (name_of node))) nodes in
        let least : length nodes ≤ first = ltb-false first (length nodes) h in
        omega arith

    same : (ns : List Node) → position_or_len (λ node. test (name_of node)) ns ≡ position_or_len test (names_of ns)
    same [] = refl
    same (node ∷ rest) = ap (λ (n : ℕ). cond (not (test (name_of node))) (1 + n) 0) (same rest)

names_are : (w : Code) (m : World) → StandsFor w m → names_in m.nodes ≡ m.names
names_are w m h = ap names_in h.nodes ∙ map-map (λ node. node.mint.name) model_of w.nodes.items ∙ sym h.names

-- an event that was next has happened
pub turned : (it : TheStage) (old new : Stage) (node : Name) (event : NodeEvent) (text out : List ℕ) (came : Answered) (count : ℕ)
    → IsStage old it → turn it ≡ Some (event_at node event) → Happened (event_at node event) it new text out came
    → ((report : Report) → Tells came report
    → count ≡ position_or_len (is_touched node (effects_of report)) (names_of new.world.nodes.items))
    → Turned (event_at node event) it new text out count
turned it old new node event text out came count o t h c =
    record { stage = h.stage; text = h.text; idle = subst (AreIdle (after it happened)) (sym same) (idle_after it happened t) }
  where
    happened : Event
    happened = event_at node event

    report : Report
    report = (step it.world happened).report

    names : names_of new.world.nodes.items ≡ names_in it.world.nodes
    names = sym h.stage.world.names ∙ names_kept it.world happened ∙ sym (names_are old.world it.world o.world)

    same : count ≡ before it.world happened it.world.nodes
    same =
        c report h.tells
        ∙ (λ i. position_or_len (is_touched (sym (event_named node event) i) (effects_of report)) (names i))

-- the turn of the other nodes, where the first ones are idle, is the next one
pub next_behind : (it : TheStage) (self : Stage) (idle : ℕ) (nodes : List Node) → IsStage self it → AreIdle it idle
    → nodes ≡ self.world.nodes.items → first_turn it.world it.word (map model_of (drop idle nodes)) ≡ turn it
next_behind it self idle nodes h rests same =
    ap (first_turn it.world it.word)
    (sym (drop-map model_of idle nodes) ∙ ap (λ (ns : List Node). drop idle (map model_of ns)) same ∙ ap (drop idle) (sym h.world.nodes))
    ∙ sym (behind_idle it.world it.word idle it.world.nodes rests)
