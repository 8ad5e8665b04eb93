-- A drawing as a whole document of SVG.
-- (Scalable Vector Graphics 2: 5.1 The svg element, 5.8.1 The title element, 6.6 The style element.)
use Rattle.std.specs.Prelude.{ℕ, List, ◌++◌, codes}
use Rattle.std.specs.Fmt.{decimal}
use Rattle.diagram_svg.specs.Figures.{text_element}
use Rattle.diagram_svg.specs.Markup.{attribute_text}

abbrev pub area : (width height : ℕ) → List ℕ
area width height = codes "0 0 " ++ decimal width ++ codes " " ++ decimal height

unfoldable pub root_text : (width height : ℕ) → List ℕ
root_text width height =
    attribute_text (codes "xmlns", codes "http://www.w3.org/2000/svg") ++ attribute_text (codes "width", decimal width)
    ++ attribute_text (codes "height", decimal height) ++ attribute_text (codes "viewBox", area width height)
    ++ attribute_text (codes "role", codes "img")

-- the root's start, its title, and its style in CSS
abbrev pub drawing_start : (width height : ℕ) → (title style : List ℕ) → List ℕ
drawing_start width height title style =
    codes "<svg" ++ root_text width height ++ codes ">\n" ++ text_element (codes "title") title ++ codes "\n"
    ++ text_element (codes "style") style ++ codes "\n"

abbrev pub drawing_end : List ℕ
drawing_end = codes "</svg>\n"
