-- Elements and their content, as bytes in UTF-8.
-- (Extensible Markup Language 1.0, 3 Logical Structures: start-tags, end-tags, attributes, content of elements.)
use Rattle.std.specs.Prelude.{◌≡◌, ℕ, Bool, true, false, ◌==◌, ◌&&◌, ◌||◌, not, nat_le, List, [], ◌∷◌, ◌++◌, codes, map}
use Rattle.std.specs.List.{flat_map, list_all, list_any}
use Rattle.std.specs.Str.{bytes_eq}
use Rattle.diagram_svg.specs.Escaping.{escaped_text}

-- ---- names

abbrev pub is_letter : ℕ → Bool
is_letter c = (nat_le 97 c && nat_le c 122) || (nat_le 65 c && nat_le c 90)

abbrev pub is_name_byte : ℕ → Bool
is_name_byte c = is_letter c || (nat_le 48 c && nat_le c 57) || (c == 45)

-- a letter, and then letters, digits and hyphens
abbrev pub is_name : List ℕ → Bool
is_name [] = false
is_name (c ∷ cs) = is_letter c && list_all is_name_byte cs

-- no name stands twice
abbrev pub are_distinct : List (List ℕ) → Bool
are_distinct [] = true
are_distinct (name ∷ names) = not (list_any (bytes_eq name) names) && are_distinct names

-- ---- tags

-- an attribute is its name and the text of its value
unfoldable pub attribute_text : List ℕ × List ℕ → List ℕ
attribute_text attribute = codes " " ++ attribute.0 ++ codes "=\"" ++ escaped_text attribute.1 ++ codes "\""

abbrev pub start_tag : (name : List ℕ) → (attributes : List (List ℕ × List ℕ)) → List ℕ
start_tag name attributes = codes "<" ++ name ++ flat_map attribute_text attributes ++ codes ">"

abbrev pub end_tag : (name : List ℕ) → List ℕ
end_tag name = codes "</" ++ name ++ codes ">"

abbrev pub element : (name : List ℕ) → (attributes : List (List ℕ × List ℕ)) → (inner : List ℕ) → List ℕ
element name attributes inner = start_tag name attributes ++ inner ++ end_tag name

-- names are names, and no attribute stands twice
pub record AreTagged (name : List ℕ) (attributes : List (List ℕ × List ℕ)) : Type 0 where
  pub name_is : is_name name ≡ true
  pub names_are : list_all is_name (map (λ (attribute : List ℕ × List ℕ). attribute.0) attributes) ≡ true
  pub apart : are_distinct (map (λ (attribute : List ℕ × List ℕ). attribute.0) attributes) ≡ true

-- ---- what may stand in an element: texts, line breaks and whole elements, one after another

pub data IsContent : List ℕ → Type 0 where
  nothing : IsContent []
  line_break : IsContent (codes "\n")
  text : (words : List ℕ) → IsContent (escaped_text words)
  whole : (name : List ℕ) (attributes : List (List ℕ × List ℕ)) (inner : List ℕ) → AreTagged name attributes → IsContent inner
      → IsContent (element name attributes inner)
  beside : (first others : List ℕ) → IsContent first → IsContent others → IsContent (first ++ others)

-- a text goes on with such content
pub record Appends (old new : List ℕ) : Type 0 where
  pub content : List ℕ
  pub well_formed : IsContent content
  pub behind : new ≡ old ++ content

-- one element, and a line break behind it
pub record IsDocument (text : List ℕ) : Type 0 where
  pub name : List ℕ
  pub attributes : List (List ℕ × List ℕ)
  pub inner : List ℕ
  pub tagged : AreTagged name attributes
  pub well_formed : IsContent inner
  pub is : text ≡ element name attributes inner ++ codes "\n"
