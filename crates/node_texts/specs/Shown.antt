-- The text that shows a node and its processes.
-- (Reference Manual, Processes; Distributed Erlang, Nodes.)
use Rattle.std.specs.Prelude.{Option, None, Some, ℕ, zero, suc, if◌then◌else◌, List, [], ◌∷◌, ◌++◌}
use Rattle.std.specs.FinMap as fm
use Rattle.std.specs.List.{flat_map}
use Rattle.dist_model.specs.Node.{Life, Node}
use Rattle.erl_names.specs.Ids.{pid_of}
use Rattle.erl_names.specs.Minted.{Minted}
use Rattle.erl_term.specs.declared.term.Pid.{Pid}
use Rattle.script_texts.specs.Nodes.{life_text, node_text}

abbrev pub shown_life : Pid → Option Life → List ℕ
shown_life p None = []
shown_life p (Some life) = life_text p life

abbrev pub process_text : Node → Pid → List ℕ
process_text node p = shown_life p (fm.get node.lives p)

-- the first so many processes that an incarnation has spawned
abbrev pub pids_of : Minted → ℕ → List Pid
pids_of mint zero = []
pids_of mint (suc count) = pids_of mint count ++ pid_of mint (suc count) ∷ []

-- a node that is down has no processes
abbrev pub processes_text : Node → List ℕ
processes_text node = if node.up then flat_map (process_text node) (pids_of node.mint node.mint.pids) else []

abbrev pub shown_node : Node → List ℕ
shown_node node = node_text node.mint.name node.up node.mint.creation ++ processes_text node
