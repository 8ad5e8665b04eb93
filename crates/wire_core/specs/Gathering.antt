-- An item tells its length by its first bytes, and so what was cut from items is put together again.
use Rattle.std.specs.Prelude.{◌≡◌, ℕ, ◌+◌, ◌*◌, ◌<◌, ◌≤◌, None, Some, List, ◌∷◌, ◌++◌, length}
use Rattle.dist_model.specs.Items.{Item}
use Rattle.node_frames.specs.Frames.{IsSpelled, bytes_of}
use Rattle.wire_core.specs.Cuts.{AreSpelled, IsCut, marked, marks_of_items, unmarked}
use Rattle.wire_core.specs.Fronts.{front_length}

-- of each item that is spelled, whatever follows
abbrev pub FrontIsTold : Type 0
FrontIsTold = (item : Item) → IsSpelled item → (rest : List ℕ) → front_length (bytes_of item ++ rest) ≡ Some (length (bytes_of item))

-- what some bytes tell more of them tell too
abbrev pub FrontStays : Type 0
FrontStays = (bytes rest : List ℕ) (n : ℕ) → front_length bytes ≡ Some n → front_length (bytes ++ rest) ≡ Some n

-- fewer than two tell nothing, fewer than four where they are 0 or 1, and fewer than five where they are 2 to 16
abbrev pub FrontIsNeeded : Type 0
FrontIsNeeded = ((bytes : List ℕ) → length bytes < 2 → front_length bytes ≡ None)
    × ((a b : ℕ) (rest : List ℕ) → 256 * a + b ≤ 1 → length rest < 2 → front_length (a ∷ b ∷ rest) ≡ None)
    × ((a b : ℕ) (rest : List ℕ) → 2 ≤ 256 * a + b → 256 * a + b ≤ 16 → length rest < 3 → front_length (a ∷ b ∷ rest) ≡ None)

-- behind whole items stands what is cut from items
abbrev pub IsCutBehind : Type 0
IsCutBehind = (sent : List (ℕ × Item)) (marks : List (ℕ × ℕ)) → AreSpelled sent → IsCut (marks_of_items sent ++ marks) → IsCut marks

-- an item, all of whose bytes are under one stamp
pub record IsItem (marks : List (ℕ × ℕ)) : Type 0 where
  pub stamp : ℕ
  pub item : Item
  pub spelled : IsSpelled item
  pub marks_are : marks ≡ marked stamp (bytes_of item)

-- what has the length that its front tells is an item
abbrev pub IsWholeByFront : Type 0
IsWholeByFront = (marks : List (ℕ × ℕ)) → IsCut marks → front_length (unmarked marks) ≡ Some (length (unmarked marks)) → IsItem marks
