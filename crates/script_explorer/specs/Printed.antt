-- The outcomes of an exploration, as they are printed.
use Rattle.std.specs.Prelude.{◌≡◌, ℕ, ◌+◌, ◌-◌, List, [], ◌∷◌, ◌++◌, Option, None, Some, is_some, Err, codes, drop, length}
use Rattle.std.specs.List.{flat_map}
use Rattle.run_traces.specs.declared.trace.Trace.{Trace}
use Rattle.script_explorer.specs.declared.explored.Explored.{Explored}
use Rattle.script_explorer.specs.Texts.{IsSummary, comments, heading_text, script_text, unmet_heading}
use Rattle.script_lines.specs.declared.reason.Reason.{Reason}
use Rattle.script_session.specs.Running.{LeadsTo}
use Rattle.script_session.specs.Session.{State, fresh_state, line_does}

-- a plain script, run from its first line, and the output of each line
pub record Ran (seed : ℕ) : Type 0 where
  pub lines : List (List ℕ)
  pub texts : List (List ℕ)
  pub last : State
  pub led : LeadsTo (fresh_state Trace.Off seed) lines texts last

-- an outcome: its number and that of all, the states that lead to it, and its script, of which the last lines are the questions
pub record Shown (seed : ℕ) : Type 0 where
  pub number : ℕ
  pub all : ℕ
  pub states : ℕ
  pub questions : ℕ
  pub ran : Ran seed

abbrev pub shown_text : {seed : ℕ} → Shown seed → List ℕ
shown_text it =
    heading_text it.number it.all it.states
    ++ flat_map comments (drop (length it.ran.texts - it.questions) it.ran.texts)
    ++ script_text it.ran.lines

-- outcomes have the numbers from the first on, and each tells the number of all
abbrev pub AreNumbered : {seed : ℕ} → (first all : ℕ) → List (Shown seed) → Type 0
AreNumbered first all [] = Unit {0}
AreNumbered first all (it ∷ others) = (it.number ≡ first) × (it.all ≡ all) × AreNumbered (first + 1) all others

-- an expectation that isn't met: the number of its line in the script with blocks, and the plain script before it
pub record Unmet (seed : ℕ) : Type 0 where
  pub number : ℕ
  pub ran : Ran seed
  pub line : List ℕ
  pub unmet : line_does ran.last line ≡ Err Reason.Unmet
  -- both lines, as a plain run tells them
  pub advice : List ℕ

abbrev pub unmet_text : {seed : ℕ} → Unmet seed → List ℕ
unmet_text it =
    unmet_heading it.number ++ comments it.advice ++ codes "\n" ++ script_text (it.ran.lines ++ it.line ∷ [])

-- ---- the whole

abbrev pub shown_texts : {seed : ℕ} → List (Shown seed) → List ℕ
shown_texts shown = flat_map shown_text shown

abbrev pub unmet_texts : {seed : ℕ} → Option (Unmet seed) → List ℕ
unmet_texts None = []
unmet_texts (Some unmet) = unmet_text unmet

-- how many states and outcomes there are, then the outcomes, then an expectation that isn't met, if there is one
pub record IsExplored (seed : ℕ) (it : Explored) : Type 0 where
  pub summary : List ℕ
  pub shown : List (Shown seed)
  pub summed : IsSummary (length shown) summary
  pub numbered : AreNumbered 1 (length shown) shown
  pub unmet : Option (Unmet seed)
  pub text : it.text.items ≡ codes "# " ++ summary ++ codes "\n" ++ shown_texts shown ++ unmet_texts unmet
  pub told : is_some it.unmet ≡ is_some unmet
