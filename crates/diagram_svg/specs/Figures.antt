-- The figures of a drawing as they are written in SVG, an element and a line break each.
-- (Scalable Vector Graphics 2: 9 Basic Shapes, 11.2 The text element, 5.8.1 The title element.)
use Rattle.std.specs.Prelude.{ℕ, List, [], ◌∷◌, ◌++◌, codes}
use Rattle.std.specs.Fmt.{decimal}
use Rattle.diagram_svg.specs.Escaping.{escaped_text}
use Rattle.diagram_svg.specs.Markup.{attribute_text, end_tag}
use Rattle.diagram_svg.specs.declared.figures.Point.{Point}

-- an element with no attribute, and a text within
unfoldable pub text_element : (name text : List ℕ) → List ℕ
text_element name text = codes "<" ++ name ++ codes ">" ++ escaped_text text ++ end_tag name

-- the tooltip of a figure, where there is one
unfoldable pub titled : (tooltip : List ℕ) → List ℕ
titled [] = []
titled (c ∷ cs) = text_element (codes "title") (c ∷ cs)

unfoldable pub class_text : (class : List ℕ) → List ℕ
class_text class = attribute_text (codes "class", class)

unfoldable pub place_text : (x y : List ℕ) → Point → List ℕ
place_text x y at = attribute_text (x, decimal at.x) ++ attribute_text (y, decimal at.y)

-- with round corners
unfoldable pub size_text : (width height : ℕ) → List ℕ
size_text width height =
    attribute_text (codes "width", decimal width) ++ attribute_text (codes "height", decimal height)
    ++ attribute_text (codes "rx", codes "6")

abbrev pub a_line : (class : List ℕ) → (from to : Point) → (tooltip : List ℕ) → List ℕ
a_line class from to tooltip =
    codes "<line" ++ class_text class ++ place_text (codes "x1") (codes "y1") from ++ place_text (codes "x2") (codes "y2") to ++ codes ">"
    ++ titled tooltip ++ codes "</line>\n"

abbrev pub some_words : (class : List ℕ) → Point → (words tooltip : List ℕ) → List ℕ
some_words class at words tooltip =
    codes "<text" ++ class_text class ++ place_text (codes "x") (codes "y") at ++ codes ">" ++ escaped_text words
    ++ titled tooltip ++ codes "</text>\n"

abbrev pub a_box : (class : List ℕ) → (corner : Point) → (width height : ℕ) → List ℕ
a_box class corner width height =
    codes "<rect" ++ class_text class ++ place_text (codes "x") (codes "y") corner ++ size_text width height ++ codes "></rect>\n"
