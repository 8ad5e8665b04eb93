-- Pieces that are cut from items. Their bytes are seen one by one, each under the stamp of its piece, or of its item.
use Rattle.std.specs.Prelude.{◌≡◌, ℕ, List, [], ◌∷◌, ◌++◌, map}
use Rattle.dist_model.specs.Items.{Item}
use Rattle.node_frames.specs.Frames.{IsSpelled, bytes_of}
use Rattle.wire_core.specs.Pieces.{PieceSeen}

abbrev pub marked : ℕ → List ℕ → List (ℕ × ℕ)
marked stamp bytes = map (λ byte. (stamp, byte)) bytes

-- the bytes alone
abbrev pub unmarked : List (ℕ × ℕ) → List ℕ
unmarked marks = map (λ mark. mark.1) marks

-- the bytes of pieces, in order
abbrev pub marks_of : List PieceSeen → List (ℕ × ℕ)
marks_of [] = []
marks_of (piece ∷ rest) = marked piece.stamp piece.bytes ++ marks_of rest

-- the bytes of items, in order
abbrev pub marks_of_items : List (ℕ × Item) → List (ℕ × ℕ)
marks_of_items [] = []
marks_of_items (sent ∷ rest) = marked sent.0 (bytes_of sent.1) ++ marks_of_items rest

abbrev pub AreSpelled : List (ℕ × Item) → Type 0
AreSpelled [] = Unit {0}
AreSpelled (sent ∷ rest) = IsSpelled sent.1 × AreSpelled rest

-- cut from items: these bytes begin those of some items that are spelled
pub record IsCut (marks : List (ℕ × ℕ)) : Type 0 where
  pub items : List (ℕ × Item)
  pub spelled : AreSpelled items
  pub rest : List (ℕ × ℕ)
  pub whole : marks ++ rest ≡ marks_of_items items

abbrev pub AreCut : List PieceSeen → Type 0
AreCut pieces = IsCut (marks_of pieces)
