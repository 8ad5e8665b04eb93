-- The part of an event that its row has: each item that it sent, on the queue of its way, and the item that it took.
use Rattle.std.specs.Prelude.{◌≡◌, ℕ, Bool, true, false, ◌==◌, ◌&&◌, ◌||◌, nat_lt, if◌then◌else◌, List}
use Rattle.std.specs.Prelude.{[], ◌∷◌, ◌++◌, length, Option, None, Some, is_none, Result, Ok, Err}
use Rattle.std.specs.List.{flat_map}
use Rattle.diagram.specs.declared.rows.Diagram.{Diagram}
use Rattle.diagram.specs.declared.rows.Mark.{Mark}
use Rattle.diagram.specs.declared.rows.Mark.TheVariants as mark
use Rattle.diagram.specs.declared.rows.Row.{Row}
use Rattle.dist_model.specs.Names.{Name}
use Rattle.dist_model.specs.declared.report.Answer.{Answer}
use Rattle.dist_model.specs.declared.report.Answer.TheVariants as answer
use Rattle.dist_model.specs.declared.report.Effect.{Effect}
use Rattle.dist_model.specs.declared.report.Report.{Report}
use Rattle.erl_names.specs.declared.trunk.TrunkId.{TrunkId}
use Rattle.erl_term.specs.declared.refusal.Refusal.{Refusal}
use Rattle.node_frames.specs.Frames.{Framed}
use Rattle.run_diagrams.specs.Numbers.{IsNumber, way_of}
use Rattle.run_diagrams.specs.Scope.{has_room}
use Rattle.run_diagrams.specs.declared.scope.Scope.{Scope}
use Rattle.run_diagrams.specs.declared.queues.Way.{Way}
use Rattle.run_diagrams.specs.declared.recorder.Recorder.{Recorder}

-- ---- the items that an event sends on connections, and the one that it takes

abbrev pub way_in : Effect Framed → List Way
way_in (Effect.Sent (Some trunk) peer frame) = way_of trunk peer ∷ []
way_in _ = []

abbrev pub ways_of : List (Effect Framed) → List Way
ways_of effects = flat_map way_in effects

-- the item that came on a connection is taken, also if it breaks the side there
abbrev pub took_on : Name → Option TrunkId → Answer → Option Way
took_on node (Some trunk) (answer.Took kind) = Some (way_of trunk node)
took_on node (Some trunk) (answer.Broken fault) = Some (way_of trunk node)
took_on node _ _ = None

abbrev pub taken : Answer → (queue : ℕ) → Option ℕ
taken (answer.Took kind) queue = Some queue
taken (answer.Broken fault) queue = Some queue
taken _ queue = None

-- ---- a row

abbrev pub queue_in : Mark → List ℕ
queue_in (mark.Sent item) = item.queue ∷ []
queue_in (mark.Note note) = []

abbrev pub queues_of : List Mark → List ℕ
queues_of marks = flat_map queue_in marks

abbrev pub AreNumbers : (all : List Way) → List ℕ → List Way → Type 0
AreNumbers all [] [] = Unit {0}
AreNumbers all (number ∷ numbers) (way ∷ ways) = IsNumber all number way × AreNumbers all numbers ways
AreNumbers all _ _ = ⊥

abbrev pub IsTaken : (all : List Way) → Option ℕ → Option Way → Type 0
IsTaken all None None = Unit {0}
IsTaken all (Some number) (Some way) = IsNumber all number way
IsTaken all _ _ = ⊥

pub record IsRowOf (node : Name) (trunk : Option TrunkId) (report : Report Framed) (all : List Way) (row : Row) : Type 0 where
  pub sent : AreNumbers all (queues_of row.marks.items) (ways_of report.effects.items)
  pub took : IsTaken all row.took (took_on node trunk report.answer)

-- of an event that was refused
pub record IsIdle (row : Row) : Type 0 where
  pub sent : queues_of row.marks.items ≡ []
  pub took : row.took ≡ None

abbrev pub IsRowFor : Name → Option TrunkId → Result (Report Framed) Refusal → List Way → Row → Type 0
IsRowFor node trunk (Ok report) all row = IsRowOf node trunk report all row
IsRowFor node trunk (Err why) all row = IsIdle row

-- ---- the rows

-- nothing happens in it: it shows the words of one line at most
abbrev pub is_still : Row → Bool
is_still row =
    nat_lt (length row.words.items) 2 && (length row.marks.items == 0) && is_none row.took && (length row.gave_up.items == 0)

-- a row more, if there is room
abbrev pub with_one : Scope → List Row → Row → List Row
with_one scope rows row = if has_room scope (length rows) then rows ++ row ∷ [] else rows

abbrev pub with_row : Scope → List Row → Row → List Row
with_row scope rows row = if is_still row then rows else with_one scope rows row

-- an event has a row of its own, unless nothing is to be seen of it
pub record IsRecorded (node : Name) (trunk : Option TrunkId) (came : Result (Report Framed) Refusal) (scope : Scope)
    (old new : List Row) (all : List Way) : Type 0 where
  pub row : Row
  pub behind : new ≡ with_row scope old row
  pub is : IsRowFor node trunk came all row

-- ---- the end of a recording

-- a last row counts the rows that had no room, and shows no event
pub record Counts (rows shown : List Row) : Type 0 where
  pub row : Row
  pub behind : shown ≡ rows ++ row ∷ []
  pub marks : row.marks.items ≡ []
  pub took : row.took ≡ None

abbrev pub IsShown : (are_left_out : Bool) → (rows shown : List Row) → Type 0
IsShown true rows shown = Counts rows shown
IsShown false rows shown = shown ≡ rows

abbrev pub IsPictureOf : Recorder → Diagram → Type 0
IsPictureOf recorder diagram = IsShown (nat_lt 0 recorder.left_out) recorder.diagram.rows.items diagram.rows.items

-- ---- on the way to it

-- ways keep their numbers
abbrev pub KeepsNumbers : (old new : List Way) → Type 0
KeepsNumbers old new = (number : ℕ) (way : Way) → IsNumber old number way → IsNumber new number way

-- marks that send on these ways, and others, stand behind those of a row
pub record Adds (all : List Way) (ways : List Way) (old new : Row) : Type 0 where
  pub numbers : List ℕ
  pub are : AreNumbers all numbers ways
  pub queues : queues_of new.marks.items ≡ queues_of old.marks.items ++ numbers
  pub took : new.took ≡ old.took
