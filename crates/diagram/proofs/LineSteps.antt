-- The line of one mark more.
use Rattle.std.proofs.Common.{◌≡◌, ℕ, ◌+◌, ◌<◌, List, [], ◌∷◌, ◌++◌, length, get_or, take, drop, count_by, append_assoc, sym, ap, ◌∙◌}
use Rattle.std.proofs.lemmas.List.{drop_more, take_more}
use Rattle.diagram.specs.Lines.{is_on, lane_of, lines_from}
use Rattle.diagram.specs.declared.rows.Mark.{Mark}

pub one_more : (first i line : ℕ) (marks : List Mark) (mark : Mark) (lines new all : List ℕ) → i < length marks
    → mark ≡ get_or marks i mark → line ≡ first + count_by (is_on (lane_of mark)) (take i marks)
    → lines ++ lines_from first (take i marks) (drop i marks) ≡ all → new ≡ lines ++ line ∷ []
    → new ++ lines_from first (take (i + 1) marks) (drop (i + 1) marks) ≡ all
one_more first i line marks mark lines new all h e f given pushed =
    let front : take (i + 1) marks ≡ take i marks ++ mark ∷ [] =
    take_more marks i mark h ∙ ap (λ (m : Mark). take i marks ++ m ∷ []) (sym e) in
    let back : drop i marks ≡ mark ∷ drop (i + 1) marks = drop_more marks i mark h ∙ ap (λ (m : Mark). m ∷ drop (i + 1) marks) (sym e) in
    ap (λ (ls : List ℕ). ls ++ lines_from first (take (i + 1) marks) (drop (i + 1) marks)) pushed
    ∙ append_assoc lines (line ∷ []) (lines_from first (take (i + 1) marks) (drop (i + 1) marks))
    ∙ ap (λ (front : List Mark). lines ++ line ∷ lines_from first front (drop (i + 1) marks)) front
    ∙ ap (λ (n : ℕ). lines ++ n ∷ lines_from first (take i marks ++ mark ∷ []) (drop (i + 1) marks)) f
    ∙ sym (ap (λ (rest : List Mark). lines ++ lines_from first (take i marks) rest) back)
    ∙ given
