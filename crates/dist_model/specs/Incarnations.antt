-- A node stops, and starts again in another incarnation.
-- (ERTS User's Guide, Distribution Protocol, Distribution Handshake, on creations.)
use Rattle.std.specs.Prelude.{map, ◌+◌, ◌^◌, true, false, if◌then◌else◌, List, [], nat_lt}
use Rattle.std.specs.FinMap as fm
use Rattle.dist_model.specs.Commands.{Accepts, Outcome, Refuses}
use Rattle.dist_model.specs.declared.report.Answer.{Answer}
use Rattle.dist_model.specs.Node.{Node}
use Rattle.dist_model.specs.Sides.{Gone, TrunkSide, in_state}
use Rattle.dist_model.specs.Work.{at_work}
use Rattle.erl_names.specs.Minted.{nothing_drawn}
use Rattle.erl_names.specs.Order.{trunk_cmp}
use Rattle.erl_names.specs.declared.trunk.TrunkId.{TrunkId}
use Rattle.erl_term.specs.declared.refusal.Refusal.{Refusal}
use Rattle.std.specs.FinMap.{FinMap}

abbrev pub all_gone : List (TrunkId × TrunkSide) → List (TrunkId × TrunkSide)
all_gone = map (λ entry. (entry.0, in_state Gone (entry.1)))

abbrev pub without_sides : Node → FinMap trunk_cmp TrunkSide
without_sides node = fm.from_entries (all_gone (fm.entries node.sides))

-- the node drops its processes, with their names, links and monitors. It sends nothing, and all its connections are gone
abbrev pub stopped : Node → Node
stopped node =
    record node {
      up = false;
      lives = fm.empty;
      names = fm.empty;
      ends = fm.empty;
      watches = fm.empty;
      registered = fm.empty;
      sides = without_sides node;
    }

-- the creation is one more. The node keeps its name, its setup, the number of its dials, and its sides, which are gone
abbrev pub started : Node → Node
started node = record (stopped node) { mint = nothing_drawn node.mint.name (node.mint.creation + 1); up = true; local = [] }

abbrev pub stop : Node → Outcome
stop node = Accepts Answer.Stopped (at_work (stopped node))

abbrev pub start : Node → Outcome
start node =
    if node.up then Refuses Refusal.NodeUp else
    (if nat_lt (node.mint.creation + 1) (2 ^ 32) then Accepts (Answer.Started (node.mint.creation + 1)) (at_work (started node))
    else Refuses Refusal.IdsUsedUp)
