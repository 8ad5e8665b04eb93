-- The bytes of pieces and of items, one by one.
use Rattle.std.proofs.Common.{◌≡◌, ℕ, suc, ◌≤◌, List, [], ◌∷◌, ◌++◌, length, refl, sym, ap, ◌∙◌, append_assoc, arith}
use Rattle.std.proofs.lemmas.List.{map-append}
use Rattle.wire_core.specs.Cuts.{IsCut, marked, marks_of, unmarked}
use Rattle.wire_core.specs.Pieces.{PieceSeen}

pub nothing_is_cut : IsCut []
nothing_is_cut = record { items = []; spelled = tt; rest = []; whole = refl }

-- what begins such bytes is cut from the same items
pub cut_front : (a b : List (ℕ × ℕ)) → IsCut (a ++ b) → IsCut a
cut_front a b h = record { items = h.items; spelled = h.spelled; rest = b ++ h.rest; whole = sym (append_assoc a b h.rest) ∙ h.whole }

pub marks_append : (a b : List PieceSeen) → marks_of (a ++ b) ≡ marks_of a ++ marks_of b
marks_append [] b = refl
marks_append (p ∷ a) b =
    ap (λ l. marked p.stamp p.bytes ++ l) (marks_append a b) ∙ sym (append_assoc (marked p.stamp p.bytes) (marks_of a) (marks_of b))

-- ---- bytes under a stamp

pub unmarked_marked : (stamp : ℕ) (bytes : List ℕ) → unmarked (marked stamp bytes) ≡ bytes
unmarked_marked stamp [] = refl
unmarked_marked stamp (x ∷ bytes) = ap (λ l. x ∷ l) (unmarked_marked stamp bytes)

pub marked_append : (stamp : ℕ) (a b : List ℕ) → marked stamp (a ++ b) ≡ marked stamp a ++ marked stamp b
marked_append stamp a b = map-append (λ byte. (stamp, byte)) a b

pub unmarked_append : (a b : List (ℕ × ℕ)) → unmarked (a ++ b) ≡ unmarked a ++ unmarked b
unmarked_append a b = map-append (λ (mark : ℕ × ℕ). mark.1) a b

pub length_unmarked : (marks : List (ℕ × ℕ)) → length (unmarked marks) ≡ length marks
length_unmarked [] = refl
length_unmarked (m ∷ marks) = ap suc (length_unmarked marks)

-- the last piece has the stamp of the whole
pub same_stamp : (marks : List (ℕ × ℕ)) (s t : ℕ) (bytes all : List ℕ) → 1 ≤ length bytes → marks ++ marked t bytes ≡ marked s all → t ≡ s
same_stamp [] s t [] all some e = absurd (omega arith)
same_stamp [] s t (x ∷ bytes) [] some e = absurd cc
same_stamp [] s t (x ∷ bytes) (y ∷ all) some e = let h : ◌≡◌ {A = ℕ × ℕ} (t, x) (s, y) = cc in ap (λ (m : ℕ × ℕ). m.0) h
same_stamp (m ∷ marks) s t bytes [] some e = absurd cc
same_stamp (m ∷ marks) s t bytes (y ∷ all) some e =
    let h : marks ++ marked t bytes ≡ marked s all = cc in same_stamp marks s t bytes all some h
