-- The outcomes of an exploration, as they are drawn.
use Rattle.std.specs.Prelude.{◌≡◌, ℕ, ◌-◌, List, [], ◌∷◌, ◌++◌, Option, None, Some, is_some, drop, length, map, string_bytes}
use Rattle.std.specs.List.{flat_map}
use Rattle.std.specs.Str.Lines.{lines}
use Rattle.diagram_svg.specs.Panels.{AppendsPanels}
use Rattle.diagram_svg.specs.declared.panels.Panel.{Panel}
use Rattle.script_explorer.specs.declared.explored.Explored.{Explored}
use Rattle.script_explorer.specs.Printed.{AreNumbered, Shown, Unmet}
use Rattle.script_explorer.specs.Texts.{IsSummary, number_text, unmet_number_text}

abbrev pub heading_in : Panel → List (List ℕ)
heading_in panel = map string_bytes panel.heading.items

-- the number of an outcome, and below it the lines of the replies
abbrev pub heading_of : (number all states : ℕ) → (replies : List (List ℕ)) → List (List ℕ)
heading_of number all states replies = number_text number all states ∷ flat_map lines replies

abbrev pub shown_heading : {seed : ℕ} → Shown seed → List (List ℕ)
shown_heading it = heading_of it.number it.all it.states (drop (length it.ran.texts - it.questions) it.ran.texts)

-- the number of a line that isn't met, and below it the line that was expected and the one that came
abbrev pub unmet_heading : (number : ℕ) → (advice : List ℕ) → List (List ℕ)
unmet_heading number advice = unmet_number_text number ∷ lines advice

abbrev pub unmet_headings : {seed : ℕ} → Option (Unmet seed) → List (List (List ℕ))
unmet_headings None = []
unmet_headings (Some unmet) = unmet_heading unmet.number unmet.advice ∷ []

-- a whole document, with a title of its own
pub record IsDocumentOf (caption : List (List ℕ)) (panels : List Panel) (text : List ℕ) : Type 0 where
  pub title : List ℕ
  pub drawn : AppendsPanels title caption panels [] text

-- A document: a caption, whose first line tells how many states and outcomes there are, then the outcomes, then an
-- expectation that isn't met, if there is one.
pub record IsDrawn (seed : ℕ) (it : Explored) : Type 0 where
  pub summary : List ℕ
  pub more : List (List ℕ)
  pub shown : List (Shown seed)
  pub summed : IsSummary (length shown) summary
  pub numbered : AreNumbered 1 (length shown) shown
  pub unmet : Option (Unmet seed)
  pub told : is_some it.unmet ≡ is_some unmet
  pub panels : List Panel
  pub headings : map heading_in panels ≡ map shown_heading shown ++ unmet_headings unmet
  pub document : IsDocumentOf (summary ∷ more) panels it.text.items
