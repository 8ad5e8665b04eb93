-- An event of a node of a world, with what travels before and after it.
use Rattle.std.specs.Prelude.{◌≡◌, Option, Bool, if◌then◌else◌, List, ◌++◌, Result, Ok, Err}
use Rattle.std.specs.Ordering.{eq_by_cmp}
use Rattle.dist_model.specs.Commands.{Outcome}
use Rattle.dist_model.specs.Dialing.{has_name}
use Rattle.dist_model.specs.Items.{Item}
use Rattle.dist_model.specs.Names.{Name, place_cmp}
use Rattle.dist_model.specs.Node.{Node}
use Rattle.dist_model.specs.declared.report.Report.{Report}
use Rattle.erl_names.specs.declared.trunk.TrunkId.{TrunkId}
use Rattle.erl_term.specs.declared.refusal.Refusal.{Refusal}
use Rattle.node_core.specs.ComingToANode.{IsNext}
use Rattle.node_core.specs.Done.{Did}
use Rattle.node_core.specs.SentAt.{sent_at}
use Rattle.node_frames.specs.Frames.{Framed}
use Rattle.node_plan.specs.Planned.{IsRefused}
use Rattle.node_core.specs.declared.node_event.NodeEvent.{NodeEvent}
use Rattle.node_core.specs.declared.node_event.NodeEvent.TheVariants as event
use Rattle.world_core.specs.Lists.{Lines, at, behind_first}

-- what is told of the world is so: what comes next on the connection, and whether there is a node of the dialed name
abbrev pub Meets : NodeEvent → List Name → Node → Lines → (is_known : Bool) → Option Item → Type 0
Meets (event.Arrive trunk word) names m lines is_known first = IsNext m trunk (at lines trunk m.mint.name) first
Meets (event.Dial peer word) names m lines is_known first = has_name peer names ≡ is_known
Meets _ names m lines is_known first = Unit {0}

-- ---- what travels afterwards

-- what was sent is behind it
abbrev pub Grew : Lines → Lines → Report Framed → Type 0
Grew before after report = (t : TrunkId) (x : Name) → at after t x ≡ at before t x ++ sent_at t x report.effects.items

-- and what has come is gone
abbrev pub taken_at : NodeEvent → Name → TrunkId → Name → List Framed → List Framed
taken_at (event.Arrive trunk word) name t x frames = if eq_by_cmp place_cmp (t, x) (trunk, name) then behind_first frames else frames
taken_at _ name t x frames = frames

abbrev pub Moved : NodeEvent → Name → Lines → Lines → Report Framed → Type 0
Moved event name before after report =
    (t : TrunkId) (x : Name) → at after t x ≡ taken_at event name t x (at before t x ++ sent_at t x report.effects.items)

abbrev pub Stayed : Lines → Lines → Type 0
Stayed before after = (t : TrunkId) (x : Name) → at after t x ≡ at before t x

-- ---- what an event that sends comes to, and what any event comes to. A refused event changes nothing

abbrev pub Sends : Outcome → (old new : Node) → (before after : Lines) → Result (Report Framed) Refusal → Type 0
Sends due old new before after (Ok report) = Did due new report × Grew before after report
Sends due old new before after (Err e) = IsRefused due e × (new ≡ old) × Stayed before after

abbrev pub ComesTo : NodeEvent → Outcome → (old new : Node) → (before after : Lines) → Result (Report Framed) Refusal → Type 0
ComesTo event due old new before after (Ok report) = Did due new report × Moved event old.mint.name before after report
ComesTo event due old new before after (Err e) = IsRefused due e × (new ≡ old) × Stayed before after
