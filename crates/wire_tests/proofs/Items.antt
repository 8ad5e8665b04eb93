-- Pieces that are whole items are cut from these.
use Rattle.std.proofs.Common.{◌≡◌, ℕ, List, [], ◌∷◌, ◌++◌, refl, sym, ap, ◌∙◌, subst, append-nil}
use Rattle.dist_model.specs.Items.{Item}
use Rattle.wire_core.specs.Cuts.{AreCut, AreSpelled, marked, marks_of, marks_of_items}
use Rattle.wire_core.specs.Pieces.{PieceSeen}
use Rattle.wire_core.specs.Spellings.{SpellsItem}
use Rattle.wire_tests.specs.Whole.{AreItems}

record ItemsOf (pieces : List PieceSeen) : Type 0 where
  items : List (ℕ × Item)
  spelled : AreSpelled items
  marks : marks_of pieces ≡ marks_of_items items

items_of : (pieces : List PieceSeen) → AreItems pieces → ItemsOf pieces
items_of [] h = record { items = []; spelled = tt; marks = refl }
items_of (piece ∷ pieces) h =
    let r = items_of pieces h.1 in
    record {
      items = (piece.stamp, h.0.item) ∷ r.items;
      spelled = (h.0.spelled, r.spelled);
      marks = ap (λ l. marked piece.stamp piece.bytes ++ l) r.marks
          ∙ ap (λ l. marked piece.stamp l ++ marks_of_items r.items) (sym h.0.written);
    }

pub one_more : (pieces : List PieceSeen) (piece : PieceSeen) → AreItems pieces → SpellsItem piece.bytes → AreItems (pieces ++ piece ∷ [])
one_more [] piece h s = (s, tt)
one_more (p ∷ pieces) piece h s = (h.0, one_more pieces piece h.1 s)

pub are_cut : (pieces : List PieceSeen) (piece : PieceSeen) → AreItems pieces → SpellsItem piece.bytes → AreCut (pieces ++ piece ∷ [])
are_cut pieces piece h s =
    let all = pieces ++ piece ∷ [] in
    let r = items_of all (one_more pieces piece h s) in
    record { items = r.items; spelled = r.spelled; rest = []; whole = append-nil (marks_of all) ∙ r.marks }

pub none_yet : (pieces : List PieceSeen) → pieces ≡ [] → AreItems pieces
none_yet pieces none = subst AreItems (sym none) tt
