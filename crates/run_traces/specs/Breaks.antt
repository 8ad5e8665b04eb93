-- The connections that broke: of which node, towards which peer, and by which fault.
-- (ERTS User's Guide, Distribution Protocol; Reference Manual, Distributed Erlang. The form of the lines is own.)
use Rattle.std.specs.Prelude.{Option, None, Some, Bool, ◌&&◌, if◌then◌else◌, ℕ, List, [], ◌++◌, codes}
use Rattle.std.specs.Fmt.{decimal}
use Rattle.std.specs.List.{find}
use Rattle.std.specs.Option.{option_map}
use Rattle.conn_core.specs.FaultNumbers.{fault_number}
use Rattle.conn_core.specs.declared.arrival.Fault.{Fault}
use Rattle.dist_model.specs.Names.{Name, same_name}
use Rattle.dist_model.specs.Seen.{side_of_trunk}
use Rattle.dist_model.specs.World.{Arrive, Event, Refused, Report, Reported, World}
use Rattle.dist_model.specs.declared.report.Answer.{Answer}
use Rattle.run_traces.specs.declared.breaks.Break.{Break}
use Rattle.run_traces.specs.declared.breaks.Breaks as code
use Rattle.run_traces.specs.declared.trace.Trace.{Trace}
use Rattle.script_texts.specs.Texts.{answer_text}
use Rattle.script_texts.specs.Words.{fault_name}
use Rattle.world_core.specs.Coming.{peer_on}

-- the fault by which the last connection of a node to a peer broke, if one has
abbrev pub Breaks : Type 0
Breaks = (node peer : Name) → Option Fault

abbrev pub none_broken : Breaks
none_broken node peer = None

-- one more connection of the node to the peer has broken
abbrev pub with_break : (node peer : Name) → Fault → Breaks → Breaks
with_break node peer fault breaks = λ here there.
    if same_name node here && same_name peer there then Some fault else breaks here there

-- ---- an event

-- the peer from which an item comes in it: the node at the other end of the connection, before the event
abbrev pub source : World → Event → Option Name
source world (Arrive trunk node word) = Some (peer_on trunk (side_of_trunk world node trunk))
source world event = None

abbrev pub fault_of : Answer → Option Fault
fault_of (Answer.Broken fault) = Some fault
fault_of answer = None

abbrev pub fault_in : Report → Option Fault
fault_in (Refused why) = None
fault_in (Reported answer effects) = fault_of answer

abbrev pub breaks_by : (node : Name) → (peer : Option Name) → Option Fault → Breaks → Breaks
breaks_by node (Some peer) (Some fault) breaks = with_break node peer fault breaks
breaks_by node peer fault breaks = breaks

abbrev pub breaks_with : (node : Name) → (peer : Option Name) → Report → Breaks → Breaks
breaks_with node peer report breaks = breaks_by node peer (fault_in report) breaks

-- ---- texts

abbrev pub broke_text : (node peer : Name) → Fault → List ℕ
broke_text node peer fault =
    codes "broke " ++ node ++ codes " " ++ peer ++ codes " " ++ decimal (fault_number fault) ++ codes " " ++ fault_name fault ++ codes "\n"

-- the line of a connection that broke, in a trace that is on
abbrev pub broke : Trace → (node : Name) → (peer : Option Name) → Option Fault → List ℕ
broke Trace.Off node peer fault = []
broke trace node (Some peer) (Some fault) = broke_text node peer fault
broke trace node peer fault = []

-- the answer to the item that broke the connection, or `none`
abbrev pub why_text : Option Fault → List ℕ
why_text None = codes "none\n"
why_text (Some fault) = answer_text [] (Answer.Broken fault)

-- ---- in code

abbrev pub is_of : (node peer : Name) → Break → Bool
is_of node peer it = same_name it.node node && same_name it.peer peer

-- the breaks of a list
abbrev pub broken_in : List Break → Breaks
broken_in list = λ node peer. option_map (λ (it : Break). it.fault) (find (is_of node peer) list)

abbrev pub broken_by : code.Breaks → Breaks
broken_by breaks = broken_in breaks.list.items
