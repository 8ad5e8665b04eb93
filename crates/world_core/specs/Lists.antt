-- The frames in flight to each node on each of its connections, as they were sent.
-- (Reference Manual, Processes, Delivery of Signals.)
use Rattle.std.specs.Prelude.{◌≢◌, Option, is_some, unwrap_or, None, Some, Bool, false, not, if◌then◌else◌, List, [], ◌∷◌, ◌&&◌, ◌||◌}
use Rattle.std.specs.FinMap.{find}
use Rattle.std.specs.List.{list_all}
use Rattle.dist_model.specs.Names.{Name, same_pid}
use Rattle.erl_names.specs.Order.{name_cmp, trunk_cmp}
use Rattle.erl_names.specs.declared.trunk.TrunkId.{TrunkId}
use Rattle.erl_term.specs.declared.term.Pid.{Pid}
use Rattle.node_frames.specs.Frames.{Framed}
use Rattle.sorted_map.specs.Entries.{changed, without}

-- to one node, by the connection
abbrev pub Line : Type 0
Line = List (TrunkId × List Framed)

-- by the node that it travels to
abbrev pub Lines : Type 0
Lines = List (Name × Line)

abbrev pub in_line : Line → TrunkId → List Framed
in_line line trunk = unwrap_or (find trunk_cmp trunk line) []

abbrev pub line_to : Lines → Name → Line
line_to lines to = unwrap_or (find name_cmp to lines) []

-- on that connection to that node, the first to come first
abbrev pub at : Lines → TrunkId → Name → List Framed
at lines trunk to = in_line (line_to lines to) trunk

abbrev pub first_of : List Framed → Option Framed
first_of [] = None
first_of (frame ∷ rest) = Some frame

abbrev pub behind_first : List Framed → List Framed
behind_first [] = []
behind_first (frame ∷ rest) = rest

-- something travels on each connection that has an entry
abbrev pub HoldsAll : Line → Type 0
HoldsAll line = (trunk : TrunkId) → find trunk_cmp trunk line ≢ Some []

-- with these frames in place of those of a connection that has an entry. Where there are none, the entry goes
abbrev pub with_queue : TrunkId → List Framed → Line → Line
with_queue trunk frames line =
    if is_some (first_of frames) then changed trunk_cmp trunk frames line else without trunk_cmp trunk line

-- ---- the frames in flight between two processes

abbrev pub joins : Pid → Pid → Option (Pid × Pid) → Bool
joins p q None = false
joins p q (Some pids) = same_pid pids.0 p && same_pid pids.1 q

-- a signal of one of them to the other
abbrev pub is_between : Pid → Pid → Framed → Bool
is_between p q frame = joins p q frame.between || joins q p frame.between

abbrev pub nothing_between : Pid → Pid → List Framed → Bool
nothing_between p q = list_all (λ frame. not (is_between p q frame))
