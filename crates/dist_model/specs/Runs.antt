-- Opening worlds, and the worlds that a list of events leads to.
use Rattle.std.specs.Prelude.{map, ◌≡◌, ◌⊎◌, true, List, [], ◌∷◌}
use Rattle.std.specs.FinMap as fm
use Rattle.dist_model.specs.Names.{Name}
use Rattle.dist_model.specs.Node.{Node}
use Rattle.dist_model.specs.Work.{report}
use Rattle.dist_model.specs.World.{Event, Refused, Report, Reported, World, step}
use Rattle.erl_handshake.specs.Flags.{flags_of}
use Rattle.erl_handshake.specs.declared.setup.Setup.{Setup}
use Rattle.erl_names.specs.Minted.{nothing_drawn}
use Rattle.erl_term.specs.declared.refusal.Refusal.{Refusal}

-- a node that is up, in its first incarnation, before its first event
abbrev pub new_node : Name → Setup → Node
new_node name setup = record {
  mint = nothing_drawn name 1;
  cookie = setup.cookie;
  flags = flags_of setup.profile;
  up = true;
  dialed = 0;
  lives = fm.empty;
  names = fm.empty;
  ends = fm.empty;
  watches = fm.empty;
  registered = fm.empty;
  sides = fm.empty;
  local = [];
}

-- the world of new nodes with these names, cookies and profiles
abbrev pub opening : List (Name × Setup) → World
opening nodes = record { names = map (λ node. node.0) nodes; nodes = map (λ node. new_node node.0 node.1) nodes; lists = fm.empty }

-- the report of an event that was accepted
abbrev pub IsReported : Report → Type 0
IsReported (Refused why) = ⊥
IsReported (Reported answer effects) = Unit {0}

-- the result of an event: its step, or OutOfMemory with no change. OutOfMemory comes only for an event that the step does not refuse,
-- so every other refusal takes precedence
abbrev pub Goes : World → Event → Report → World → Type 0
Goes world event report new =
    ((report ≡ (step world event).report) × (new ≡ (step world event).world))
    ⊎ ((report ≡ Refused Refusal.OutOfMemory) × (new ≡ world) × IsReported (step world event).report)

-- the events lead from one world to the other, with a report for each
abbrev pub Runs : World → List Event → List Report → World → Type 0
Runs world [] [] new = new ≡ world
Runs world [] (report ∷ reports) new = ⊥
Runs world (event ∷ events) [] new = ⊥
Runs world (event ∷ events) (report ∷ reports) new = (next : World) × Goes world event report next × Runs next events reports new

-- the world that the events lead to with ample memory
abbrev pub run : List Event → World → World
run [] world = world
run (event ∷ events) world = run events ((step world event).world)

-- and their reports
abbrev pub reports_of : List Event → World → List Report
reports_of [] world = []
reports_of (event ∷ events) world = (step world event).report ∷ reports_of events ((step world event).world)

-- in every world that a run leads to, and so at each moment of every run
abbrev pub Always : (World → Type 0) → Type 0
Always Holds = (nodes : List (Name × Setup)) (events : List Event) (reports : List Report) (world : World)
    → Runs (opening nodes) events reports world → Holds world
