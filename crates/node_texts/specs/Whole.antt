-- The text that shows a node, its processes, and their links and monitors.
-- (Reference Manual, Processes, Links and Monitors; Distributed Erlang, Nodes.)
use Rattle.std.specs.Prelude.{ℕ, if◌then◌else◌, List, [], ◌++◌, codes}
use Rattle.std.specs.List.{flat_map}
use Rattle.dist_model.specs.Node.{Node, ends_of}
use Rattle.erl_term.specs.declared.term.Pid.{Pid}
use Rattle.erl_term.specs.declared.term.Reference.{Reference}
use Rattle.link_core.specs.declared.end.End.{End}
use Rattle.monitor_core.specs.declared.monitor.Registration.{Registration}
use Rattle.monitor_core.specs.declared.monitor.Watch.{Watch}
use Rattle.script_terms.specs.Printing.{pid_text, reference_text}
use Rattle.script_texts.specs.Nodes.{node_text}
use Rattle.script_texts.specs.Texts.{end_text}
use Rattle.node_texts.specs.Monitors.{others_of, own_of, target_text}
use Rattle.node_texts.specs.Shown.{pids_of, process_text}

-- a partner, and the end that the process has of their link
abbrev pub link_line : Pid × End → List ℕ
link_line link = codes "  linked " ++ pid_text link.0 ++ codes " " ++ end_text link.1 ++ codes "\n"

-- a monitor that the process owns
abbrev pub own_line : Reference × Watch → List ℕ
own_line entry = codes "  monitors " ++ reference_text entry.0 ++ codes " " ++ target_text entry.1.target ++ codes "\n"

-- one that another process has of it
abbrev pub other_line : Reference × Registration → List ℕ
other_line entry = codes "  monitored " ++ reference_text entry.0 ++ codes " " ++ pid_text entry.1.owner ++ codes "\n"

abbrev pub whole_process : Node → Pid → List ℕ
whole_process node p =
    process_text node p ++ flat_map link_line (ends_of node p) ++ flat_map own_line (own_of node p)
    ++ flat_map other_line (others_of node p)

-- a node that is down has no processes
abbrev pub whole_processes : Node → List ℕ
whole_processes node = if node.up then flat_map (whole_process node) (pids_of node.mint node.mint.pids) else []

abbrev pub whole_node : Node → List ℕ
whole_node node = node_text node.mint.name node.up node.mint.creation ++ whole_processes node
