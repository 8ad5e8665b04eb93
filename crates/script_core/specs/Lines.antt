-- The outcome of a line, at a runner of a script's lines or a keeper of them.
use Rattle.std.specs.Prelude.{◌≡◌, ℕ, List, [], ◌∷◌, ◌++◌, Result, Ok, Err}
use Rattle.script_lines.specs.declared.reason.Reason.{Reason}
use Rattle.script_session.specs.Session.{State, Step}
use Rattle.script_session.specs.declared.session.Stop.{Stop}
use Rattle.script_session.specs.declared.session.Stop.TheVariants as stop

-- it was run, and what it prints is put behind the text
pub record Steps {S : Type 0} (stands : S → State → Type 0) (does : Result Step Reason) (new : S)
    (old_text new_text : List ℕ) : Type 0 where
  pub step : Step
  pub says : does ≡ Ok step
  pub state : stands new step.state
  pub text : new_text ≡ old_text ++ step.text

-- or it is a bad line, or memory is wanting
abbrev pub Heeds : {S : Type 0} → (S → State → Type 0) → Result Step Reason → S → (old_text new_text : List ℕ)
    → Result (Unit {0}) Stop → Type 0
Heeds stands does new old_text new_text (Ok x) = Steps stands does new old_text new_text
Heeds stands does new old_text new_text (Err (stop.Bad reason)) = does ≡ Err reason
Heeds stands does new old_text new_text (Err stop.OutOfMemory) = Unit {0}

-- ---- a keeper of lines, which runs none

-- the line is kept, or there is no memory for it
abbrev pub Keeps : {S : Type 0} → (S → List (List ℕ) → Type 0) → (lines : List (List ℕ)) (line : List ℕ) → S
    → Result (Unit {0}) Stop → Type 0
Keeps keeps lines line new (Ok x) = keeps new (lines ++ line ∷ [])
Keeps keeps lines line new (Err stop.OutOfMemory) = keeps new lines
Keeps keeps lines line new (Err (stop.Bad reason)) = ⊥
