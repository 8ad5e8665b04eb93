-- What the entry at a place of a history answers.
use Rattle.std.specs.Prelude.{Bool, true, false, Option, None, Some, Ok, Err, is_ok}
use Rattle.dist_model.specs.declared.report.Answer.{Answer as Said}
use Rattle.erl_names.specs.declared.trunk.TrunkId.{TrunkId}
use Rattle.erl_term.specs.declared.refusal.Refusal.{Refusal}
use Rattle.node_history.specs.Entering.{Answer}
use Rattle.node_history.specs.declared.entry.Entry.{Entry}
use Rattle.node_core.specs.declared.node_event.NodeEvent.{NodeEvent}
use Rattle.node_core.specs.declared.node_event.NodeEvent.TheVariants as event

abbrev pub answer_in : Option Entry → Answer
answer_in None = Err Refusal.NothingThere
answer_in (Some entry) = entry.answer

abbrev pub is_accepted : Option Entry → Bool
is_accepted entry = is_ok (answer_in entry)

-- the connection that was dialed
abbrev pub trunk_said : Said → Option TrunkId
trunk_said (Said.Trunk trunk) = Some trunk
trunk_said _ = None

abbrev pub trunk_answered : Answer → Option TrunkId
trunk_answered (Ok report) = trunk_said report.answer
trunk_answered (Err e) = None

abbrev pub trunk_in : Option Entry → Option TrunkId
trunk_in entry = trunk_answered (answer_in entry)

-- nothing comes on a connection at it, and none is dialed
abbrev pub is_plain : NodeEvent → Bool
is_plain (event.Arrive trunk word) = false
is_plain (event.Dial peer word) = false
is_plain _ = true
