-- A script that repeats the merged run of nodes in threads: its lines bring about the events of the entries, in their order.
-- (ERTS User's Guide, Distribution Protocol; Reference Manual, Processes; Distributed Erlang. Lines are those of scripts.)
use Rattle.std.specs.Prelude.{◌≡◌, ◌≤◌, ℕ, Option, Some, List, [], ◌∷◌, ◌++◌, Err, Ok, length, slice_get}
use Rattle.std.specs.List.{AllZip, flat_map}
use Rattle.dist_books.specs.Acting.{Nodes}
use Rattle.dist_model.specs.Names.{Name}
use Rattle.dist_model.specs.Runs.{opening}
use Rattle.dist_model.specs.World.{Event}
use Rattle.erl_handshake.specs.declared.setup.Setup.{Setup}
use Rattle.erl_term.specs.declared.refusal.Refusal.{Refusal}
use Rattle.joined_books.specs.declared.trace.Placed.{Placed}
use Rattle.node_core.specs.NodeEvents.{event_at}
use Rattle.node_history.specs.declared.entry.Entry.{Entry}
use Rattle.node_lock.specs.Seen.{BookSeen}
use Rattle.run_traces.specs.declared.trace.Trace.{Trace}
use Rattle.script_lines.specs.Lines.{line_says}
use Rattle.script_lines.specs.Said.{Challenge, Said}
use Rattle.script_session.specs.Events.{IsEventOf}
use Rattle.script_session.specs.Running.{LeadsTo}
use Rattle.script_session.specs.Session.{State, does, fresh_state, may_come}

-- ---- the events of the merged run

-- the event of an entry. Memory wasn't wanting for it
pub record IsEntry (name : Name) (entry : Entry) (event : Event) : Type 0 where
  pub is : event ≡ event_at name entry.event
  pub kept : entry.answer ≡ Err Refusal.OutOfMemory → ⊥

abbrev pub IsEventIn : Option (Name × Setup) → Option BookSeen → (position : ℕ) → Event → Type 0
IsEventIn (Some node) (Some book) position event =
    (entry : Entry) × (slice_get book.history.entries.items position ≡ Some entry) × IsEntry node.0 entry event
IsEventIn _ _ position event = ⊥

-- of the entry that stands there
abbrev pub IsEventAt : Nodes → List BookSeen → Placed → Event → Type 0
IsEventAt nodes books placed event = IsEventIn (slice_get nodes placed.node) (slice_get books placed.node) placed.position event

-- ---- the events of lines

-- a line that sets the next challenge brings about no event, and each other line brings about one
abbrev pub BringsOnly : State → Said → List Event → Type 0
BringsOnly state said [] = (number : ℕ) × (said ≡ Challenge number)
BringsOnly state said (event ∷ []) = IsEventOf state said event
BringsOnly state said (event ∷ other ∷ more) = ⊥

pub record LineBrings (state : State) (line : List ℕ) (events : List Event) (next : State) : Type 0 where
  pub said : Said
  pub says : line_says (may_come state) state.names line ≡ Ok (Some said)
  pub only : BringsOnly state said events
  pub next_is : next ≡ (does said state).state

-- run one after the other, the lines bring about these events
abbrev pub Brings : State → List (List ℕ) → List Event → State → Type 0
Brings state [] events last = (events ≡ []) × (last ≡ state)
Brings state (line ∷ lines) events last =
    (now rest : List Event) × (next : State) × (events ≡ now ++ rest) × LineBrings state line now next × Brings next lines rest last

-- ---- the script

-- lines that open the world of these nodes
pub record Opens (seed : ℕ) (nodes : Nodes) (lines : List (List ℕ)) (at : State) : Type 0 where
  pub texts : List (List ℕ)
  pub led : LeadsTo (fresh_state Trace.Off seed) lines texts at
  pub world : at.stage.world ≡ opening nodes

abbrev pub line_text : List ℕ → List ℕ
line_text line = line ++ 10 ∷ []

-- the nodes come first, and then the events of all entries. It has no more lines than a script may have
pub record Repeats (seed : ℕ) (nodes : Nodes) (books : List BookSeen) (entries : List Placed) (text : List ℕ) : Type 0 where
  pub front : List (List ℕ)
  pub at : State
  pub opens : Opens seed nodes front at
  pub behind : List (List ℕ)
  pub events : List Event
  pub last : State
  pub brings : Brings at behind events last
  pub are : AllZip (IsEventAt nodes books) entries events
  pub within : length (front ++ behind) ≤ 1048576
  pub text_is : text ≡ flat_map line_text (front ++ behind)
