-- Panels in a drawing.
use Rattle.std.proofs.Common.{◌≡◌, ℕ, List, [], ◌∷◌, ◌++◌, ap, arith, codes, decimal, map, refl, string_bytes, subst, sym, ◌∙◌}
use Rattle.std.proofs.lemmas.Grind.{common_steps}
use Rattle.std.specs.List.{flat_map}
use Rattle.diagram_svg.proofs.Appended.{appends_more, appends_nothing, appends_whole}
use Rattle.diagram_svg.proofs.Content.{Attributes, words_append}
use Rattle.diagram_svg.specs.Document.{drawing_end, drawing_start}
use Rattle.diagram_svg.specs.Markup.{Appends, attribute_text, beside, element, line_break, whole}
use Rattle.diagram_svg.specs.Panels.{AppendsPanels, Nests, Says, SaysAll, ShowsPanel, ShowsPanels, part_text}
use Rattle.diagram_svg.specs.declared.figures.Point.{Point}
use Rattle.diagram_svg.specs.declared.panels.Panel.{Panel}

-- ---- a drawing in another

abbrev part : (corner : Point) → (width height : ℕ) → Attributes
part corner width height =
    (codes "x", decimal corner.x) ∷ (codes "y", decimal corner.y) ∷ (codes "width", decimal width) ∷ (codes "height", decimal height) ∷ []

part_is : (corner : Point) (width height : ℕ) → part_text corner width height ≡ flat_map attribute_text (part corner width height)
unfolding part_text
part_is corner width height = grind (arith, common_steps)

nest_is : (old attributes figures : List ℕ)
    → ((old ++ codes "<svg" ++ attributes ++ codes ">") ++ figures) ++ codes "</svg>\n"
    ≡ old ++ ((codes "<" ++ codes "svg" ++ attributes ++ codes ">") ++ figures ++ (codes "</" ++ codes "svg" ++ codes ">") ++ codes "\n")
nest_is old attributes figures = grind (arith, common_steps)

pub nests : (corner : Point) (width height : ℕ) (old begun drawn new : List ℕ)
    → begun ≡ old ++ codes "<svg" ++ part_text corner width height ++ codes ">" → Appends begun drawn → new ≡ drawn ++ drawing_end
    → Nests old new
nests corner width height old begun drawn new start figures end = record {
  attributes = part corner width height;
  inner = figures.content;
  tagged = record { name_is = refl; names_are = refl; apart = refl };
  well_formed = figures.well_formed;
  behind =
      end ∙ ap (λ (text : List ℕ). text ++ drawing_end) (figures.behind ∙ ap (λ (text : List ℕ). text ++ figures.content) start)
      ∙ nest_is old (part_text corner width height) figures.content
      ∙ ap
      (λ (attributes : List ℕ). old ++ ((codes "<" ++ codes "svg" ++ attributes ++ codes ">") ++ figures.content
      ++ (codes "</" ++ codes "svg" ++ codes ">") ++ codes "\n"))
      (part_is corner width height);
}

-- ---- all of it is content

says_appends : (words old new : List ℕ) → Says words old new → Appends old new
says_appends words old new it = words_append it.class it.at it.shown it.tooltip old new it.behind

pub all_says_append : (lines : List (List ℕ)) (old new : List ℕ) → SaysAll lines old new → Appends old new
all_says_append [] old new says = subst (λ (text : List ℕ). Appends old text) (sym says) (appends_nothing old)
all_says_append (line ∷ lines) old new says =
    appends_more old says.0 new (says_appends line old says.0 says.1) (all_says_append lines says.0 new says.2)

nests_appends : (old new : List ℕ) → Nests old new → Appends old new
nests_appends old new it = record {
  content = element (codes "svg") it.attributes it.inner ++ codes "\n";
  well_formed = beside _ _ (whole (codes "svg") it.attributes it.inner it.tagged it.well_formed) line_break;
  behind = it.behind;
}

panel_appends : (panel : Panel) (old new : List ℕ) → ShowsPanel panel old new → Appends old new
panel_appends panel old new it =
    appends_more old it.0 new (all_says_append (map string_bytes panel.heading.items) old it.0 it.1) (nests_appends it.0 new it.2)

pub panels_append : (panels : List Panel) (old new : List ℕ) → ShowsPanels panels old new → Appends old new
panels_append [] old new shows = subst (λ (text : List ℕ). Appends old text) (sym shows) (appends_nothing old)
panels_append (panel ∷ panels) old new shows =
    appends_more old shows.0 new (panel_appends panel old shows.0 shows.1) (panels_append panels shows.0 new shows.2)

-- ---- the whole

pub appends_panels : (width height : ℕ) (title style : List ℕ) (caption : List (List ℕ)) (panels : List Panel)
    (old begun ground below shown new : List ℕ) → begun ≡ old ++ drawing_start width height title style → Appends begun ground
    → SaysAll caption ground below → ShowsPanels panels below shown → new ≡ shown ++ drawing_end
    → AppendsPanels title caption panels old new
appends_panels width height title style caption panels old begun ground below shown new start paper says shows end =
    let whole =
    appends_whole width height title style old begun shown new start
    (appends_more begun ground shown paper
    (appends_more ground below shown (all_says_append caption ground below says) (panels_append panels below shown shows))) end in
    record {
      width = width;
      height = height;
      style = style;
      ground = ground;
      below = below;
      shown = shown;
      drawing = whole.drawing;
      document = whole.document;
      behind = whole.behind;
      begins = subst (λ (text : List ℕ). Appends text ground) start paper;
      says = says;
      shows = shows;
      ends = end;
    }
