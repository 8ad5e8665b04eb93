-- The answer and the output of a run of a script, and the position of a run whose script has come in part.
use Rattle.std.specs.Prelude.{◌≡◌, ◌≤◌, ℕ, nat_lt, if◌then◌else◌, List, []}
use Rattle.std.specs.Prelude.{◌++◌, length, Option, None, Some, Result, Ok, Err}
use Rattle.std.specs.Io.KnownBytes.{Appends}
use Rattle.script_core.specs.declared.script.Outcome.{Outcome}
use Rattle.script_core.specs.declared.script.Outcome.TheVariants.{Ran, BadLine, OutOfMemory, Unmerged, Failed}
use Rattle.script_core.specs.declared.script.Script.{Script}
use Rattle.script_core.specs.Script.{Run, Whole, AtBadLine, lines_of, runs_from, runs_lines, prints}
use Rattle.script_lines.specs.Breaks.{IsOneLine}
use Rattle.script_lines.specs.declared.reason.Reason.{Reason}
use Rattle.script_lines.specs.declared.reason.Reason.TheVariants.{Unmet}
use Rattle.script_session.specs.Session.{State}

-- the exit status of the program
abbrev pub status_at : Reason → ℕ
status_at Unmet = 7
status_at reason = 3

abbrev pub status_of : Outcome → ℕ
status_of Ran = 0
status_of (BadLine number reason) = status_at reason
status_of OutOfMemory = 4
status_of Unmerged = 5
status_of Failed = 6

-- a beginning of the text was put behind the bytes that the writer held
pub record AppendsFront (text : List ℕ) (old new : Option (List ℕ)) : Type 0 where
  pub front : List ℕ
  pub rest : List ℕ
  pub parts : text ≡ front ++ rest
  pub appended : Appends old new front

-- The answer to a script whose run this is, and the text that was written. Reading, writing and memory may
-- fail at any place, and then a beginning of the text was written.
abbrev pub Answers : Run → Option (List ℕ) → Option (List ℕ) → Outcome → Type 0
Answers r old new Ran = (r.verdict ≡ Whole) × Appends old new r.text
Answers r old new (BadLine number reason) = (r.verdict ≡ AtBadLine number reason) × Appends old new r.text
Answers r old new OutOfMemory = AppendsFront r.text old new
Answers r old new Unmerged = ⊥
Answers r old new Failed = AppendsFront r.text old new

-- ---- a script that has come in part

-- a line is bad, if it is still one of those that are run
abbrev pub fault_at : ℕ → Reason → Outcome
fault_at number reason = if nat_lt 1048576 number then Failed else BadLine number reason

-- the number of the line that comes, the state before it, and the bytes that have come of it
pub record Position : Type 0 where
  pub number : ℕ
  pub state : State
  pub pending : List ℕ

abbrev pub opening : State → Position
opening state = record { number = 1; state = state; pending = [] }

-- the run of the bytes that are still to come
abbrev pub rest_of : Position → List ℕ → Run
rest_of p bytes = runs_lines p.number p.state (lines_of (p.pending ++ bytes))

-- the session that runs its lines stands for the state before the line that comes
pub record IsAt {S : Type 0} (stands : S → State → Type 0) (s : Script S) (p : Position) : Type 0 where
  pub session : stands s.session p.state
  pub pending : s.pending.items ≡ p.pending
  pub number : s.number ≡ p.number
  pub one_line : IsOneLine p.pending
  pub short : length p.pending ≤ 65536

-- the bytes were taken, and the text that they print was written
pub record Reaches (p : Position) (bytes : List ℕ) (is_at : Position → Type 0) (old new : Option (List ℕ)) : Type 0 where
  pub to : Position
  pub text : List ℕ
  pub at : is_at to
  pub goes : (rest : List ℕ) → rest_of p (bytes ++ rest) ≡ prints text (rest_of to rest)
  pub appended : Appends old new text

-- an error is the answer to the whole script, whatever else comes
abbrev pub Took : Position → List ℕ → (Position → Type 0) → Option (List ℕ) → Option (List ℕ) → Result (Unit {0}) Outcome → Type 0
Took p bytes is_at old new (Ok x) = Reaches p bytes is_at old new
Took p bytes is_at old new (Err outcome) = (rest : List ℕ) → Answers (rest_of p (bytes ++ rest)) old new outcome

-- the bytes that have been read of the input were taken
pub record Progress (from : State) (input : List ℕ) (remaining : Option (List ℕ)) (is_at : Position → Type 0)
    (old new : Option (List ℕ)) : Type 0 where
  pub bytes : List ℕ
  pub left : List ℕ
  pub remains : remaining ≡ Some left
  pub parts : input ≡ bytes ++ left
  pub reached : Reaches (opening from) bytes is_at old new

-- more has been taken, or the script has ended
abbrev pub GoesOn : State → List ℕ → Option (List ℕ) → (Position → Type 0) → Option (List ℕ) → Option (List ℕ) → Option Outcome → Type 0
GoesOn from input remaining is_at old new None = Progress from input remaining is_at old new
GoesOn from input remaining is_at old new (Some outcome) = Answers (runs_from from input) old new outcome
