-- What is cut from items is put together again, by the length at their front.
use Rattle.std.proofs.Common.{◌≡◌, ℕ, Option, None, Some, List, [], ◌∷◌, ◌++◌, length, refl, sym, ap, ◌∙◌, append_assoc, arith}
use Rattle.std.proofs.lemmas.Option.{same_Some}
use Rattle.dist_model.specs.Items.{Item}
use Rattle.node_frames.specs.Frames.{IsSpelled, bytes_of}
use Rattle.wire_core.specs.Cuts.{AreSpelled, IsCut, marked, marks_of_items, unmarked}
use Rattle.wire_core.specs.Fronts.{front_length}
use Rattle.wire_core.specs.Gathering.{IsCutBehind, IsItem, IsWholeByFront}
use Rattle.wire_core.proofs.Cuts.{length_unmarked, unmarked_append, unmarked_marked}
use Rattle.wire_core.proofs.Fronts.{front_is_told, front_stays}

-- where the bytes of two lists begin one, and are as many, they are the same
same_front : {A : Type 0} (a b c d : List A) → a ++ c ≡ b ++ d → length a ≡ length b → (a ≡ b) × (c ≡ d)
same_front [] [] c d e l = (refl, e)
same_front [] (y ∷ b) c d e l = absurd (omega arith)
same_front (x ∷ a) [] c d e l = absurd (omega arith)
same_front (x ∷ a) (y ∷ b) c d e l =
    let heads : x ≡ y = cc in
    let tails : a ++ c ≡ b ++ d = cc in
    let r = same_front a b c d tails (omega arith) in
    (λ i. heads i ∷ r.0 i, r.1)

-- two streams that are the same begin with the same item
same_item : (s t : ℕ) (x y : Item) (c d : List (ℕ × ℕ)) → IsSpelled x → IsSpelled y
    → marked s (bytes_of x) ++ c ≡ marked t (bytes_of y) ++ d
    → (marked s (bytes_of x) ≡ marked t (bytes_of y)) × (c ≡ d)
same_item s t x y c d hx hy e =
    let a = marked s (bytes_of x) in
    let b = marked t (bytes_of y) in
    let fx : front_length (unmarked (a ++ c)) ≡ Some (length (bytes_of x)) =
    ap front_length (unmarked_append a c ∙ ap (λ l. l ++ unmarked c) (unmarked_marked s (bytes_of x))) ∙ front_is_told x hx (unmarked c) in
    let fy : front_length (unmarked (b ++ d)) ≡ Some (length (bytes_of y)) =
    ap front_length (unmarked_append b d ∙ ap (λ l. l ++ unmarked d) (unmarked_marked t (bytes_of y))) ∙ front_is_told y hy (unmarked d) in
    let as_long : length (bytes_of x) ≡ length (bytes_of y) = same_Some _ _ (sym fx ∙ ap (λ l. front_length (unmarked l)) e ∙ fy) in
    let la : length a ≡ length (bytes_of x) = sym (length_unmarked a) ∙ ap (λ (l : List ℕ). length l) (unmarked_marked s (bytes_of x)) in
    let lb : length b ≡ length (bytes_of y) = sym (length_unmarked b) ∙ ap (λ (l : List ℕ). length l) (unmarked_marked t (bytes_of y)) in
    same_front a b c d e (omega arith)

-- an item has bytes
no_item : (s : ℕ) (x : Item) (c : List (ℕ × ℕ)) → IsSpelled x → marked s (bytes_of x) ++ c ≡ [] → ⊥
no_item s x c hx e =
    let a = marked s (bytes_of x) in
    let fx : front_length (unmarked (a ++ c)) ≡ Some (length (bytes_of x)) =
    ap front_length (unmarked_append a c ∙ ap (λ l. l ++ unmarked c) (unmarked_marked s (bytes_of x))) ∙ front_is_told x hx (unmarked c) in
    let none : ◌≡◌ {A = Option ℕ} None (Some (length (bytes_of x))) = sym (ap (λ l. front_length (unmarked l)) e) ∙ fx in
    cc

-- behind whole items too
pub cut_behind : IsCutBehind
cut_behind sent marks s h = go sent h.items s h.spelled (sym (append_assoc (marks_of_items sent) marks h.rest) ∙ h.whole)
  where
    go : (sent items : List (ℕ × Item)) → AreSpelled sent → AreSpelled items
        → marks_of_items sent ++ (marks ++ h.rest) ≡ marks_of_items items → IsCut marks
    go [] items s t e = record { items = items; spelled = t; rest = h.rest; whole = e }
    go (x ∷ sent) [] s t e =
        absurd (no_item x.0 x.1 (marks_of_items sent ++ (marks ++ h.rest)) s.0
        (sym (append_assoc (marked x.0 (bytes_of x.1)) (marks_of_items sent) (marks ++ h.rest)) ∙ e))
    go (x ∷ sent) (y ∷ items) s t e =
        let r = same_item x.0 y.0 x.1 y.1 (marks_of_items sent ++ (marks ++ h.rest)) (marks_of_items items) s.0 t.0
        (sym (append_assoc (marked x.0 (bytes_of x.1)) (marks_of_items sent) (marks ++ h.rest)) ∙ e) in
        go sent items s.1 t.1 r.1

-- what was gathered is an item where the length at its front is its own
pub whole_item : IsWholeByFront
whole_item marks h front = go h.items h.spelled h.whole
  where
    go : (items : List (ℕ × Item)) → AreSpelled items → marks ++ h.rest ≡ marks_of_items items → IsItem marks
    go [] s e =
        let f : front_length (unmarked (marks ++ h.rest)) ≡ Some (length (unmarked marks)) =
        ap front_length (unmarked_append marks h.rest) ∙ front_stays (unmarked marks) (unmarked h.rest) (length (unmarked marks)) front in
        let none : ◌≡◌ {A = Option ℕ} None (Some (length (unmarked marks))) = sym (ap (λ l. front_length (unmarked l)) e) ∙ f in
        absurd cc
    go (x ∷ items) s e =
        let a = marked x.0 (bytes_of x.1) in
        let fx : front_length (unmarked (a ++ marks_of_items items)) ≡ Some (length (bytes_of x.1)) =
        ap front_length
        (unmarked_append a (marks_of_items items) ∙ ap (λ l. l ++ unmarked (marks_of_items items)) (unmarked_marked x.0 (bytes_of x.1)))
        ∙ front_is_told x.1 s.0 (unmarked (marks_of_items items)) in
        let fm : front_length (unmarked (marks ++ h.rest)) ≡ Some (length (unmarked marks)) =
        ap front_length (unmarked_append marks h.rest) ∙ front_stays (unmarked marks) (unmarked h.rest) (length (unmarked marks)) front in
        let as_long : length (unmarked marks) ≡ length (bytes_of x.1) =
        same_Some _ _ (sym fm ∙ ap (λ l. front_length (unmarked l)) e ∙ fx) in
        let la : length a ≡ length (bytes_of x.1) =
        sym (length_unmarked a) ∙ ap (λ (l : List ℕ). length l) (unmarked_marked x.0 (bytes_of x.1)) in
        let lm = length_unmarked marks in
        let r = same_front marks a h.rest (marks_of_items items) e (omega arith) in
        record { stamp = x.0; item = x.1; spelled = s.0; marks_are = r.0 }
