-- The frames of items that have a spelling.
use Rattle.std.proofs.Common.{◌≡◌, ℕ, zero, suc, ◌<◌, List, [], ◌∷◌, ◌++◌, get_or, length, map, ap, ◌∙◌, arith}
use Rattle.std.proofs.lemmas.List.{get_or-map, length-map}
use Rattle.dist_model.specs.Items.{Item, Tick}
use Rattle.node_frames.specs.Frames.{Framed, IsSpelled, framed}
use Rattle.world_core.specs.Stands.{AreSpelled}

-- a tick stands behind the last one
abbrev pub item_at : List Item → ℕ → Item
item_at items n = get_or items n Tick

pub spelled_at : (items : List Item) (n : ℕ) → AreSpelled items → IsSpelled (item_at items n)
spelled_at [] n h = tt
spelled_at (item ∷ rest) zero h = h.0
spelled_at (item ∷ rest) (suc n) h = spelled_at rest n h.1

pub spelled_both : (items more : List Item) → AreSpelled items → AreSpelled more → AreSpelled (items ++ more)
spelled_both [] more h k = k
spelled_both (item ∷ rest) more h k = (h.0, spelled_both rest more h.1 k)

pub below_both : (items : List Item) (frames : List Framed) (n : ℕ) → frames ≡ map framed items → n < length frames → n < length items
below_both items frames n e l = omega (arith, ap length e, length-map items framed)

-- the frame at a place
pub frame_at : (items : List Item) (frames : List Framed) (n : ℕ) (frame : Framed) → frames ≡ map framed items → n < length frames
    → frame ≡ get_or frames n frame → frame ≡ framed (item_at items n)
frame_at items frames n frame e l is =
    is ∙ ap (λ held. get_or held n frame) e ∙ get_or-map framed items n Tick frame (below_both items frames n e l)
