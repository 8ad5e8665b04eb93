-- The outcome and the output of an exploration.
use Rattle.std.specs.Prelude.{◌≡◌, ◌⊎◌, ℕ, Bool, true, false, is_some, List, Option, None, Some}
use Rattle.std.specs.Io.KnownBytes.{Appends}
use Rattle.script_core.specs.declared.options.Form.{Form}
use Rattle.script_core.specs.declared.options.Form.TheVariants as form
use Rattle.script_core.specs.declared.script.Outcome.{Outcome}
use Rattle.script_core.specs.declared.script.Outcome.TheVariants as outcome
use Rattle.script_explorer.specs.Drawn.{IsDrawn}
use Rattle.script_explorer.specs.Printed.{IsExplored}
use Rattle.script_explorer.specs.declared.explored.Explored.{Explored}
use Rattle.script_lines.specs.declared.reason.Reason.{Reason}

abbrev pub outcome_for : (unmet : Option ℕ) → Outcome
outcome_for None = outcome.Ran
outcome_for (Some number) = outcome.BadLine number Reason.Unmet

-- the outcomes as a drawing, or as a text
abbrev pub IsInForm : Form → (seed : ℕ) → Explored → Type 0
IsInForm (form.Picture lines) seed explored = IsDrawn seed explored
IsInForm _ seed explored = IsExplored seed explored

-- all outcomes are written, with an expectation that isn't met or without one
pub record Wrote (form : Form) (seed : ℕ) (unmet : Bool) (old new : Option (List ℕ)) : Type 0 where
  pub explored : Explored
  pub found : IsInForm form seed explored
  pub told : is_some explored.unmet ≡ unmet
  pub appended : Appends old new explored.text.items

-- all orders meet what the script expects, or one doesn't. At a bad line nothing is written
abbrev pub Explores : (form : Form) → (seed : ℕ) → (old new : Option (List ℕ)) → Outcome → Type 0
Explores form seed old new outcome.Ran = Wrote form seed false old new
Explores form seed old new (outcome.BadLine number reason) = (new ≡ old) ⊎ (reason ≡ Reason.Unmet) × Wrote form seed true old new
Explores form seed old new outcome.OutOfMemory = new ≡ old
Explores form seed old new outcome.Unmerged = ⊥
Explores form seed old new outcome.Failed = Unit {0}
