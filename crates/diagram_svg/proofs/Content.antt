-- The figures of a drawing may stand in an element.
use Rattle.std.proofs.Common.{◌≡◌, ℕ, List, [], ◌∷◌, ◌++◌, codes, arith, refl, subst, ap, ◌∙◌}
use Rattle.std.proofs.lemmas.Grind.{common_steps}
use Rattle.std.specs.Fmt.{decimal}
use Rattle.std.specs.List.{flat_map}
use Rattle.diagram_svg.specs.Document.{area, drawing_end, drawing_start, root_text}
use Rattle.diagram_svg.specs.Escaping.{escaped_text}
use Rattle.diagram_svg.specs.Figures.{a_box, a_line, class_text, place_text, size_text, some_words, text_element, titled}
use Rattle.diagram_svg.specs.Markup.{Appends, AreTagged, IsContent, IsDocument, attribute_text}
use Rattle.diagram_svg.specs.Markup.{beside, element, line_break, nothing, text, whole}
use Rattle.diagram_svg.specs.declared.figures.Point.{Point}

-- ---- attributes

abbrev pub Attributes : Type 0
Attributes = List (List ℕ × List ℕ)

abbrev pub place : (x y : List ℕ) → Point → Attributes
place x y at = (x, decimal at.x) ∷ (y, decimal at.y) ∷ []

class_is : (class : List ℕ) → class_text class ≡ attribute_text (codes "class", class)
unfolding class_text
class_is class = refl

place_is : (x y : List ℕ) (at : Point) → place_text x y at ≡ attribute_text (x, decimal at.x) ++ attribute_text (y, decimal at.y)
unfolding place_text
place_is x y at = refl

size_is : (width height : ℕ) → size_text width height ≡ attribute_text (codes "width", decimal width)
    ++ attribute_text (codes "height", decimal height) ++ attribute_text (codes "rx", codes "6")
unfolding size_text
size_is width height = refl

-- ---- content

pub element_of_text : (name words : List ℕ) → AreTagged name [] → IsContent (text_element name words)
unfolding text_element
element_of_text name words h =
    let same : element name [] (escaped_text words) ≡ text_element name words = grind (arith, common_steps) in
    subst IsContent same (whole name [] (escaped_text words) h (text words))

titled_content : (tooltip : List ℕ) → IsContent (titled tooltip)
unfolding titled
titled_content [] = nothing
titled_content (c ∷ cs) = element_of_text (codes "title") (c ∷ cs) (record { name_is = refl; names_are = refl; apart = refl })

abbrev line_attributes : (class : List ℕ) → (from to : Point) → Attributes
line_attributes class from to = (codes "class", class) ∷ place (codes "x1") (codes "y1") from ++ place (codes "x2") (codes "y2") to

pub line_content : (class : List ℕ) (from to : Point) (tooltip : List ℕ) → IsContent (a_line class from to tooltip)
line_content class from to tooltip =
    let same : element (codes "line") (line_attributes class from to) (titled tooltip) ++ codes "\n" ≡ a_line class from to tooltip =
    grind (arith, common_steps, class_is, place_is, size_is) in
    subst IsContent same
    (beside _ _ (whole (codes "line") (line_attributes class from to) (titled tooltip)
    (record { name_is = refl; names_are = refl; apart = refl }) (titled_content tooltip)) line_break)

abbrev words_attributes : (class : List ℕ) → Point → Attributes
words_attributes class at = (codes "class", class) ∷ place (codes "x") (codes "y") at

pub words_content : (class : List ℕ) (at : Point) (words tooltip : List ℕ) → IsContent (some_words class at words tooltip)
words_content class at words tooltip =
    let same : element (codes "text") (words_attributes class at) (escaped_text words ++ titled tooltip) ++ codes "\n"
    ≡ some_words class at words tooltip = grind (arith, common_steps, class_is, place_is, size_is) in
    subst IsContent same
    (beside _ _ (whole (codes "text") (words_attributes class at) (escaped_text words ++ titled tooltip)
    (record { name_is = refl; names_are = refl; apart = refl })
    (beside _ _ (text words) (titled_content tooltip))) line_break)

abbrev box_attributes : (class : List ℕ) → Point → (width height : ℕ) → Attributes
box_attributes class corner width height =
    (codes "class", class) ∷ place (codes "x") (codes "y") corner ++ (codes "width", decimal width)
    ∷ (codes "height", decimal height) ∷ (codes "rx", codes "6") ∷ []

pub box_content : (class : List ℕ) (corner : Point) (width height : ℕ) → IsContent (a_box class corner width height)
box_content class corner width height =
    let same : element (codes "rect") (box_attributes class corner width height) [] ++ codes "\n" ≡ a_box class corner width height =
    grind (arith, common_steps, class_is, place_is, size_is) in
    subst IsContent same
    (beside _ _ (whole (codes "rect") (box_attributes class corner width height) []
    (record { name_is = refl; names_are = refl; apart = refl }) nothing) line_break)

-- ---- behind a text

pub line_appends : (class : List ℕ) (from to : Point) (tooltip old new : List ℕ) → new ≡ old ++ a_line class from to tooltip
    → Appends old new
line_appends class from to tooltip old new h = record {
  content = a_line class from to tooltip;
  well_formed = line_content class from to tooltip;
  behind = h;
}

pub words_append : (class : List ℕ) (at : Point) (words tooltip old new : List ℕ)
    → new ≡ old ++ some_words class at words tooltip → Appends old new
words_append class at words tooltip old new h = record {
  content = some_words class at words tooltip;
  well_formed = words_content class at words tooltip;
  behind = h;
}

pub box_appends : (class : List ℕ) (corner : Point) (width height : ℕ) (old new : List ℕ)
    → new ≡ old ++ a_box class corner width height → Appends old new
box_appends class corner width height old new h = record {
  content = a_box class corner width height;
  well_formed = box_content class corner width height;
  behind = h;
}

-- ---- the whole

abbrev root : (width height : ℕ) → Attributes
root width height =
    (codes "xmlns", codes "http://www.w3.org/2000/svg") ∷ (codes "width", decimal width) ∷ (codes "height", decimal height)
    ∷ (codes "viewBox", area width height) ∷ (codes "role", codes "img") ∷ []

root_is : (width height : ℕ) → root_text width height ≡ flat_map attribute_text (root width height)
unfolding root_text
root_is width height = grind (arith, common_steps)

-- what stands in the root
abbrev inside : (title style figures : List ℕ) → List ℕ
inside title style figures =
    codes "\n" ++ (text_element (codes "title") title ++ (codes "\n" ++ (text_element (codes "style") style ++ (codes "\n" ++ figures))))

inside_content : (title style figures : List ℕ) → IsContent figures → IsContent (inside title style figures)
inside_content title style figures h =
    let tags : AreTagged (codes "title") [] = record { name_is = refl; names_are = refl; apart = refl } in
    let others : AreTagged (codes "style") [] = record { name_is = refl; names_are = refl; apart = refl } in
    beside _ _ line_break (beside _ _ (element_of_text (codes "title") title tags)
    (beside _ _ line_break (beside _ _ (element_of_text (codes "style") style others) (beside _ _ line_break h))))

whole_is : (attributes title style figures : List ℕ)
    → codes "<svg" ++ attributes ++ codes ">\n" ++ title ++ codes "\n" ++ style ++ codes "\n" ++ figures ++ codes "</svg>\n"
    ≡ codes "<svg" ++ attributes ++ codes ">" ++ (codes "\n" ++ (title ++ (codes "\n" ++ (style ++ (codes "\n" ++ figures)))))
    ++ codes "</svg>" ++ codes "\n"
whole_is attributes title style figures = grind (arith, common_steps)

pub document : (width height : ℕ) (title style figures : List ℕ) → IsContent figures
    → IsDocument (drawing_start width height title style ++ figures ++ drawing_end)
document width height title style figures h = record {
  name = codes "svg";
  attributes = root width height;
  inner = inside title style figures;
  tagged = record { name_is = refl; names_are = refl; apart = refl };
  well_formed = inside_content title style figures h;
  is =
      whole_is (root_text width height) (text_element (codes "title") title) (text_element (codes "style") style) figures
      ∙ ap
      (λ (attributes : List ℕ). codes "<svg" ++ attributes ++ codes ">" ++ inside title style figures ++ codes "</svg>" ++ codes "\n")
      (root_is width height);
}
