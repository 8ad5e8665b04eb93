-- What XML makes of a text between tags, or in the quotes of an attribute, in characters.
-- (Extensible Markup Language 1.0, 2.4 Character Data and Markup, 4.1 Character and Entity References.)
use Rattle.std.specs.Prelude.{◌≡◌, ℕ, true, ◌==◌, List, [], ◌∷◌, ◌++◌, Option, None, Some, codes, if◌then◌else◌}
use Rattle.std.specs.Str.{bytes_eq}
use Rattle.diagram_svg.specs.Escaping.{is_allowed, reference_to}

-- a character that stands for itself: no mark of XML, and none that a reader may change
pub record IsPlain (c : ℕ) : Type 0 where
  pub allowed : is_allowed c ≡ true
  pub no_mark : reference_to c ≡ None

-- character data: characters that stand for themselves, and whole references
pub data IsText : List ℕ → Type 0 where
  ends : IsText []
  itself : (c : ℕ) (rest : List ℕ) → IsPlain c → IsText rest → IsText (c ∷ rest)
  reference : (c : ℕ) (name rest : List ℕ) → reference_to c ≡ Some name → IsText rest → IsText (name ++ rest)

-- the character of a reference, by what stands between & and ;
abbrev pub named : List ℕ → List ℕ
named name =
    if bytes_eq name (codes "amp") then 38 ∷ []
    else if bytes_eq name (codes "lt") then 60 ∷ []
    else if bytes_eq name (codes "gt") then 62 ∷ []
    else if bytes_eq name (codes "quot") then 34 ∷ []
    else if bytes_eq name (codes "apos") then 39 ∷ []
    else if bytes_eq name (codes "#9") then 9 ∷ []
    else if bytes_eq name (codes "#10") then 10 ∷ []
    else if bytes_eq name (codes "#13") then 13 ∷ []
    else []

-- From & to ; a reader takes the name of a reference, and every other character stands for itself.
abbrev pub read_on : List ℕ → (name : Option (List ℕ)) → List ℕ
read_on [] name = []
read_on (c ∷ cs) None = if c == 38 then read_on cs (Some []) else c ∷ read_on cs None
read_on (c ∷ cs) (Some name) = if c == 59 then named name ++ read_on cs None else read_on cs (Some (name ++ c ∷ []))

abbrev pub read_text : List ℕ → List ℕ
read_text cs = read_on cs None
