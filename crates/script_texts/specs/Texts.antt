-- The printed texts of events. Each line has its line break.
use Rattle.std.specs.Prelude.{ℕ, Bool, true, false, List, ◌++◌, Option, None, Some, codes}
use Rattle.std.specs.Fmt.{decimal}
use Rattle.std.specs.List.{flat_map}
use Rattle.conn_core.specs.FaultNumbers.{fault_number}
use Rattle.dist_model.specs.Names.{Name}
use Rattle.dist_model.specs.declared.report.Answer.{Answer}
use Rattle.dist_model.specs.declared.report.Answer.TheVariants as answer
use Rattle.erl_names.specs.declared.trunk.TrunkId.{TrunkId}
use Rattle.erl_term.specs.Data.{Data}
use Rattle.erl_term.specs.ErrorNumbers.{refusal_number, refusal_name}
use Rattle.erl_term.specs.declared.refusal.Refusal.{Refusal}
use Rattle.erl_term.specs.declared.term.Pid.{Pid}
use Rattle.hex.specs.Hex.{encode_upper}
use Rattle.link_core.specs.declared.end.End.{End}
use Rattle.link_core.specs.declared.end.End.TheVariants as end
use Rattle.script_terms.specs.Printing.{pid_text, reference_text, term_text}
use Rattle.script_texts.specs.Words.{fault_name, kind_name, swept_name}

-- the bytes that a node sends to a peer, all of them in hex
abbrev pub sent_text : (node peer : Name) → (bytes : List ℕ) → List ℕ
sent_text node peer bytes = codes "sent " ++ node ++ codes " " ++ peer ++ codes " " ++ encode_upper bytes ++ codes "\n"

-- ---- outcomes

abbrev pub done_text : List ℕ
done_text = codes "done\n"

abbrev pub refused_text : Refusal → List ℕ
refused_text refusal = codes "refused " ++ decimal (refusal_number refusal) ++ codes " " ++ refusal_name refusal ++ codes "\n"

abbrev pub trunk_text : TrunkId → List ℕ
trunk_text trunk = trunk.dialer ++ codes "/" ++ decimal trunk.count

-- the end of a link
abbrev pub end_text : End → List ℕ
end_text end.None = codes "none"
end_text end.Active = codes "active"
end_text (end.Pending id) = codes "pending:" ++ decimal id

abbrev pub link_text : Pid × End → List ℕ
link_text link = codes " " ++ pid_text link.0 ++ codes "=" ++ end_text link.1

abbrev pub message_text : Option Data → List ℕ
message_text None = codes "empty\n"
message_text (Some message) = codes "message " ++ term_text message ++ codes "\n"

abbrev pub alive_text : Bool → List ℕ
alive_text true = codes "alive\n"
alive_text false = codes "not alive\n"

-- the process that has a name, or `none`
abbrev pub holder_text : Option Pid → List ℕ
holder_text None = codes "none\n"
holder_text (Some p) = pid_text p ++ codes "\n"

-- the answer of the node of that name
abbrev pub answer_text : Name → Answer → List ℕ
answer_text node answer.Done = done_text
answer_text node (answer.Pid p) = pid_text p ++ codes "\n"
answer_text node (answer.Reference r) = reference_text r ++ codes "\n"
answer_text node (answer.Message message) = message_text message
answer_text node (answer.Links links) = codes "links" ++ flat_map link_text links ++ codes "\n"
answer_text node (answer.Alive living) = alive_text living
answer_text node (answer.Holder holder) = holder_text holder
answer_text node (answer.Trunk trunk) = codes "trunk " ++ trunk_text trunk ++ codes "\n"
answer_text node (answer.Took kind) = codes "took " ++ kind_name kind ++ codes "\n"
answer_text node (answer.Broken fault) = codes "broken " ++ decimal (fault_number fault) ++ codes " " ++ fault_name fault ++ codes "\n"
answer_text node (answer.Swept swept) = codes "swept " ++ swept_name swept ++ codes "\n"
answer_text node answer.Stopped = codes "stopped " ++ node ++ codes "\n"
answer_text node (answer.Started creation) = codes "up " ++ node ++ codes " " ++ decimal creation ++ codes "\n"

-- ---- other commands

-- both ends of the link between two processes
abbrev pub ends_text : End → End → List ℕ
ends_text first second = codes "ends " ++ end_text first ++ codes " " ++ end_text second ++ codes "\n"

-- the connection that is up, or `none`
abbrev pub route_text : Option TrunkId → List ℕ
route_text None = codes "none\n"
route_text (Some trunk) = codes "up " ++ trunk_text trunk ++ codes "\n"

-- `settled` if no event is possible any more, and `busy` otherwise
abbrev pub settled_text : Bool → List ℕ
settled_text true = codes "settled\n"
settled_text false = codes "busy\n"

-- the text for the merged books of all nodes
abbrev pub merged_text : List ℕ
merged_text = codes "merged\n"
