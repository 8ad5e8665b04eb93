-- A whole script: what it prints, how it ends, and the state at its end.
use Rattle.std.specs.Prelude.{ℕ, ◌+◌, ◌==◌, List, [], ◌∷◌, ◌++◌, length, Result, Ok, Err, nat_lt, if◌then◌else◌}
use Rattle.std.specs.List.{slice_split}
use Rattle.script_lines.specs.Breaks.{is_break}
use Rattle.script_lines.specs.declared.reason.Reason.{Reason}
use Rattle.run_traces.specs.declared.trace.Trace.{Trace}
use Rattle.script_session.specs.Session.{State, Step, fresh_state, line_does}

-- the parts between line breaks are lines, but for an empty last part
abbrev pub without_empty_last : List (List ℕ) → List (List ℕ)
without_empty_last [] = []
without_empty_last (x ∷ []) = if length x == 0 then [] else x ∷ []
without_empty_last (x ∷ y ∷ more) = x ∷ without_empty_last (y ∷ more)

abbrev pub lines_of : List ℕ → List (List ℕ)
lines_of input = without_empty_last (slice_split is_break input)

-- how a script ends: with all its lines run, at a bad line, or past the most lines that are run
pub data Verdict : Type 0 where
  Whole : Verdict
  AtBadLine : ℕ → Reason → Verdict
  TooManyLines : Verdict

pub record Run : Type 0 where
  pub state : State
  pub text : List ℕ
  pub verdict : Verdict

abbrev pub stops : Verdict → State → Run
stops verdict state = record { state = state; text = []; verdict = verdict }

abbrev pub prints : List ℕ → Run → Run
prints text r = record { state = r.state; text = text ++ r.text; verdict = r.verdict }

-- a line, and then the rest
abbrev pub runs_step : ℕ → State → Result Step Reason → (State → Run) → Run
runs_step number state (Ok step) rest = prints step.text (rest step.state)
runs_step number state (Err reason) rest = stops (AtBadLine number reason) state

-- lines are numbered from 1, and at most 1,048,576 are run
abbrev pub runs_lines : ℕ → State → List (List ℕ) → Run
runs_lines number state [] = stops Whole state
runs_lines number state (line ∷ lines) =
    if nat_lt 1048576 number then stops TooManyLines state
    else runs_step number state (line_does state line) (λ after. runs_lines (number + 1) after lines)

abbrev pub runs_from : State → List ℕ → Run
runs_from state input = runs_lines 1 state (lines_of input)

-- from the first line, under the options
abbrev pub script : Trace → (seed : ℕ) → List ℕ → Run
script trace seed input = runs_from (fresh_state trace seed) input
