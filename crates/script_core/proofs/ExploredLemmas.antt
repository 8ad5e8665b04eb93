-- The outcome of an exploration that was written.
use Rattle.std.proofs.Common.{◌≡◌, ℕ, List, None, Option, Some, ap, inr, is_some, refl}
use Rattle.std.specs.Io.KnownBytes.{Appends}
use Rattle.script_core.specs.Explored.{Explores, IsInForm, outcome_for}
use Rattle.script_core.specs.declared.options.Form.{Form}
use Rattle.script_explorer.specs.declared.explored.Explored.{Explored}

module _ (form : Form) (seed : ℕ) (old new : Option (List ℕ)) (it : Explored) (found : IsInForm form seed it)
    (appended : Appends old new it.text.items) where
  by_line : (unmet : Option ℕ) → it.unmet ≡ unmet → Explores form seed old new (outcome_for unmet)
  by_line None same = record { explored = it; found = found; told = ap is_some same; appended = appended }
  by_line (Some number) same = inr (refl, record { explored = it; found = found; told = ap is_some same; appended = appended })

  pub explores : Explores form seed old new (outcome_for it.unmet)
  explores = by_line it.unmet refl
