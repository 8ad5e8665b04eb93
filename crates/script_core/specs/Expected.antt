-- The lines that a script expects, and those that its commands have printed.
use Rattle.std.specs.Prelude.{◌≡◌, ℕ, ◌+◌, List, [], ◌∷◌, ◌++◌, length, Some, Ok}
use Rattle.script_lines.specs.Breaks.{last_line, later}
use Rattle.script_lines.specs.Lines.{line_says}
use Rattle.script_lines.specs.Said.{Expect}
use Rattle.script_session.specs.Running.{LeadsTo}
use Rattle.script_session.specs.Session.{State, may_come}
use Rattle.script_terms.specs.Filling.{filled}

-- of these texts the last line that isn't empty
abbrev pub last_printed : List (List ℕ) → List ℕ
last_printed [] = []
last_printed (text ∷ texts) = later (last_line text) (last_printed texts)

-- behind the lines that were run, a line expects these words
pub record Expects (from : State) (before : List (List ℕ)) (line : List ℕ) : Type 0 where
  pub texts : List (List ℕ)
  pub at : State
  pub led : LeadsTo from before texts at
  pub words : List ℕ
  pub says : line_says (may_come at) at.names line ≡ Ok (Some (Expect words))

-- they are the last line that was printed, with the things that their names name
abbrev pub IsMet : {from : State} → {before : List (List ℕ)} → {line : List ℕ} → Expects from before line → Type 0
IsMet e = filled e.at.names e.words ≡ last_printed e.texts

-- what is expected among the lines was printed
abbrev pub AreMet : State → List (List ℕ) → Type 0
AreMet from lines = (before after : List (List ℕ)) (line : List ℕ) → lines ≡ before ++ line ∷ after → (e : Expects from before line) → IsMet e

-- the line of this number, from 1, is the first whose words were not printed
pub record FirstUnmet (from : State) (lines : List (List ℕ)) (number : ℕ) : Type 0 where
  pub before : List (List ℕ)
  pub line : List ℕ
  pub after : List (List ℕ)
  pub parts : lines ≡ before ++ line ∷ after
  pub place : number ≡ 1 + length before
  pub expects : Expects from before line
  pub unmet : IsMet expects → ⊥
  pub met : AreMet from before
