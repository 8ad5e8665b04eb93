-- The allocated parts of a node's answer to an act, as they are known before the act.
use Rattle.std.specs.Prelude.{◌≡◌, true, Option, None, List}
use Rattle.std.specs.FinMap as fm
use Rattle.dist_model.specs.Calls.{first_message}
use Rattle.dist_model.specs.Commands.{Accepts, Outcome, Refuses}
use Rattle.dist_model.specs.Node.{Node, ends_of, living}
use Rattle.dist_model.specs.declared.command.Command.{Command}
use Rattle.dist_model.specs.declared.command.Command.TheVariants as command
use Rattle.dist_model.specs.declared.report.Answer.{Answer}
use Rattle.dist_model.specs.declared.report.Answer.TheVariants as answer
use Rattle.erl_term.specs.Data.{Data}
use Rattle.erl_term.specs.declared.term.Pid.{Pid}
use Rattle.link_core.specs.declared.end.End.{End}
use Rattle.node_history.specs.declared.spare.Spare.{Spare}
use Rattle.node_core.specs.declared.node_event.NodeEvent.{NodeEvent}
use Rattle.node_core.specs.declared.node_event.NodeEvent.TheVariants as event

abbrev pub message_of : Node → Command → Option Data
message_of m (command.Receive process) = first_message (fm.get m.lives process)
message_of m _ = None

abbrev pub message_for : Node → NodeEvent → Option Data
message_for m (event.Call asked) = message_of m asked
message_for m _ = None

-- the process that has the name in the command
abbrev pub holder_of : Node → Command → Option Pid
holder_of m (command.WhereIs name) = fm.get m.names name
holder_of m _ = None

abbrev pub holder_for : Node → NodeEvent → Option Pid
holder_for m (event.Call asked) = holder_of m asked
holder_for m _ = None

abbrev pub AreLinksOf : List (Pid × End) → Node → Command → Type 0
AreLinksOf links m (command.LinksOf process) = m.up ≡ true → living m process ≡ true → links ≡ ends_of m process
AreLinksOf links m _ = Unit {0}

abbrev pub AreLinksFor : List (Pid × End) → Node → NodeEvent → Type 0
AreLinksFor links m (event.Call asked) = AreLinksOf links m asked
AreLinksFor links m _ = Unit {0}

-- an answer, with its names, its message, its links and its process taken from the spare
abbrev pub filled : Spare → Answer → Answer
filled spare (answer.Pid pid) = answer.Pid (record pid { node = spare.atom })
filled spare (answer.Reference reference) = answer.Reference (record reference { node = spare.atom })
filled spare (answer.Message message) = answer.Message spare.message
filled spare (answer.Links links) = answer.Links spare.links
filled spare (answer.Holder holder) = answer.Holder spare.holder
filled spare (answer.Trunk trunk) = answer.Trunk (record trunk { dialer = spare.name })
filled spare said = said

-- the filled answer is the answer itself
abbrev pub Fills : Spare → Outcome → Type 0
Fills spare (Refuses e) = Unit {0}
Fills spare (Accepts said work) = filled spare said ≡ said
