-- The parts of the text of an exploration.
use Rattle.std.specs.Prelude.{◌≡◌, ℕ, ◌==◌, Bool, true, if◌then◌else◌, List, [], ◌∷◌, ◌++◌, codes}
use Rattle.std.specs.Fmt.{decimal}
use Rattle.std.specs.List.{flat_map}

-- the mark of a comment stands in front of each line. `starts` says that the bytes stand at the beginning of one
abbrev pub marked : (starts : Bool) → List ℕ → List ℕ
marked starts [] = []
marked starts (byte ∷ bytes) = (if starts then codes "#   " else []) ++ byte ∷ marked (byte == 10) bytes

abbrev pub comments : List ℕ → List ℕ
comments text = marked true text

abbrev pub script_text : (lines : List (List ℕ)) → List ℕ
script_text lines = flat_map (λ line. line ++ codes "\n") lines

abbrev pub count_text : ℕ → (name : List ℕ) → List ℕ
count_text count name = decimal count ++ codes " " ++ name ++ (if count == 1 then [] else codes "s")

abbrev pub number_text : (number all states : ℕ) → List ℕ
number_text number all states =
    codes "outcome " ++ decimal number ++ codes " of " ++ decimal all ++ codes ", in " ++ count_text states (codes "state")

abbrev pub heading_text : (number all states : ℕ) → List ℕ
heading_text number all states = codes "\n# " ++ number_text number all states ++ codes ":\n"

abbrev pub unmet_number_text : (number : ℕ) → List ℕ
unmet_number_text number = codes "line " ++ decimal number ++ codes " is not met in this order"

abbrev pub unmet_heading : (number : ℕ) → List ℕ
unmet_heading number = codes "\n# " ++ unmet_number_text number ++ codes ":\n"

abbrev pub counts_text : (states outcomes : ℕ) → List ℕ
counts_text states outcomes = count_text states (codes "state") ++ codes ", " ++ count_text outcomes (codes "outcome")

-- behind so many steps no state was visited
abbrev pub unvisited_text : (most : ℕ) → List ℕ
unvisited_text most = codes "; states behind " ++ count_text most (codes "step") ++ codes " were not visited"

abbrev pub bound_text : (is_bounded : Bool) → (most : ℕ) → List ℕ
bound_text is_bounded most = if is_bounded then unvisited_text most else []

pub record IsSummary (outcomes : ℕ) (text : List ℕ) : Type 0 where
  pub states : ℕ
  pub is_bounded : Bool
  pub most : ℕ
  pub is : text ≡ counts_text states outcomes ++ bound_text is_bounded most
