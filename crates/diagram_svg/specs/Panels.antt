-- Several diagrams in one drawing, each under a heading.
-- (Scalable Vector Graphics 2: 5.1 The svg element.)
use Rattle.std.specs.Prelude.{◌≡◌, ◌⊎◌, ℕ, List, [], ◌∷◌, ◌++◌, codes, map, string_bytes}
use Rattle.std.specs.Fmt.{decimal}
use Rattle.diagram_svg.specs.Document.{drawing_end, drawing_start}
use Rattle.diagram_svg.specs.Figures.{some_words}
use Rattle.diagram_svg.specs.Markup.{Appends, AreTagged, IsContent, IsDocument, attribute_text, element}
use Rattle.diagram_svg.specs.declared.figures.Point.{Point}
use Rattle.diagram_svg.specs.declared.panels.Panel.{Panel}

-- words stand behind a text, whole or cut. The tooltip of cut words is the whole
pub record Says (words old new : List ℕ) : Type 0 where
  pub class : List ℕ
  pub at : Point
  pub shown : List ℕ
  pub tooltip : List ℕ
  pub whole : (shown ≡ words) ⊎ (tooltip ≡ words)
  pub behind : new ≡ old ++ some_words class at shown tooltip

-- lines, in their order
abbrev pub SaysAll : (lines : List (List ℕ)) → (old new : List ℕ) → Type 0
SaysAll [] old new = new ≡ old
SaysAll (line ∷ lines) old new = (mid : List ℕ) × Says line old mid × SaysAll lines mid new

-- the place and the size of a drawing in another
unfoldable pub part_text : (corner : Point) → (width height : ℕ) → List ℕ
part_text corner width height =
    attribute_text (codes "x", decimal corner.x) ++ attribute_text (codes "y", decimal corner.y)
    ++ attribute_text (codes "width", decimal width) ++ attribute_text (codes "height", decimal height)

-- a drawing stands behind a text as an element of its own
pub record Nests (old new : List ℕ) : Type 0 where
  pub attributes : List (List ℕ × List ℕ)
  pub inner : List ℕ
  pub tagged : AreTagged (codes "svg") attributes
  pub well_formed : IsContent inner
  pub behind : new ≡ old ++ (element (codes "svg") attributes inner ++ codes "\n")

-- its heading, and below it its diagram
abbrev pub ShowsPanel : Panel → (old new : List ℕ) → Type 0
ShowsPanel panel old new = (mid : List ℕ) × SaysAll (map string_bytes panel.heading.items) old mid × Nests mid new

-- each panel, in their order
abbrev pub ShowsPanels : List Panel → (old new : List ℕ) → Type 0
ShowsPanels [] old new = new ≡ old
ShowsPanels (panel ∷ panels) old new = (mid : List ℕ) × ShowsPanel panel old mid × ShowsPanels panels mid new

-- a whole document behind a text: a title, the lines of a caption, and all panels
pub record AppendsPanels (title : List ℕ) (caption : List (List ℕ)) (panels : List Panel) (old new : List ℕ) : Type 0 where
  pub width : ℕ
  pub height : ℕ
  pub style : List ℕ
  pub ground : List ℕ
  pub below : List ℕ
  pub shown : List ℕ
  pub drawing : List ℕ
  pub document : IsDocument drawing
  pub behind : new ≡ old ++ drawing
  pub begins : Appends (old ++ drawing_start width height title style) ground
  pub says : SaysAll caption ground below
  pub shows : ShowsPanels panels below shown
  pub ends : new ≡ shown ++ drawing_end
