-- Lines that are run one after the other, and their output.
use Rattle.std.specs.Prelude.{◌≡◌, ℕ, List, [], ◌∷◌, Ok}
use Rattle.script_session.specs.Session.{State, Step, line_does}

-- they print these texts, one each
abbrev pub LeadsTo : State → List (List ℕ) → (texts : List (List ℕ)) → State → Type 0
LeadsTo state [] texts last = (texts ≡ []) × (last ≡ state)
LeadsTo state (line ∷ lines) texts last =
    (step : Step) × (more : List (List ℕ)) × (line_does state line ≡ Ok step) × (texts ≡ step.text ∷ more) × LeadsTo step.state lines more last
