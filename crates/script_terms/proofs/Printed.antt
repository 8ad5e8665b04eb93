-- Items as they are printed, one after the other.
use Rattle.std.proofs.Common.{◌≡◌, ℕ, zero, suc, ◌+◌, ◌<◌, eqb, false, List, [], ◌∷◌}
use Rattle.std.proofs.Common.{◌++◌, codes, length, get_or, take, append_assoc, sym, ap, ◌∙◌, arith}
use Rattle.std.proofs.lemmas.List.{take_more, append-nil, length-take}
use Rattle.erl_term.specs.declared.term.Term.{Term}
use Rattle.erl_term.specs.View.{view, items_view}
use Rattle.erl_term.proofs.Tags.{suc_not}
use Rattle.script_terms.specs.Printing.{comma_before, term_text, items_text, more_text}

more_more : (ts : List Term) (x : Term)
    → more_text (items_view (ts ++ x ∷ [])) ≡ more_text (items_view ts) ++ (codes "," ++ term_text (view x))
more_more [] x = ap (λ (bs : List ℕ). codes "," ++ bs) (append-nil (term_text (view x)))
more_more (t ∷ ts) x =
    ap (λ (bs : List ℕ). codes "," ++ (term_text (view t) ++ bs)) (more_more ts x)
    ∙ ap (λ (bs : List ℕ). codes "," ++ bs)
    (sym (append_assoc (term_text (view t)) (more_text (items_view ts)) (codes "," ++ term_text (view x))))

items_push : (ts : List Term) (i : ℕ) (x : Term) → length ts ≡ i
    → items_text (items_view (ts ++ x ∷ [])) ≡ items_text (items_view ts) ++ (comma_before i ++ term_text (view x))
items_push [] zero x e = append-nil (term_text (view x))
items_push [] (suc i) x e = absurd (omega arith)
items_push (t ∷ ts) zero x e = absurd (omega arith)
items_push (t ∷ ts) (suc i) x e =
    let later : eqb (suc i) 0 ≡ false = suc_not i in
    rw later (ap (λ (bs : List ℕ). term_text (view t) ++ bs) (more_more ts x)
    ∙ sym (append_assoc (term_text (view t)) (more_text (items_view ts)) (codes "," ++ term_text (view x))))

-- the text so far, the comma and the item
pub items_more : (items : List Term) (i : ℕ) (x : Term) (before out then new : List ℕ) → i < length items
    → x ≡ get_or items i x → out ≡ before ++ items_text (items_view (take i items)) → then ≡ out ++ comma_before i
    → new ≡ then ++ term_text (view x)
    → new ≡ before ++ items_text (items_view (take (i + 1) items))
items_more items i x before out then new lt is o t n =
    let len : length (take i items) ≡ i = length-take-of items i lt in
    let more : take (i + 1) items ≡ take i items ++ x ∷ [] = take_more items i x lt ∙ ap (λ (y : Term). take i items ++ y ∷ []) (sym is) in
    let all = items_push (take i items) i x len in
    n ∙ ap (λ (bs : List ℕ). bs ++ term_text (view x)) (t ∙ ap (λ (bs : List ℕ). bs ++ comma_before i) o)
    ∙ append_assoc (before ++ items_text (items_view (take i items))) (comma_before i) (term_text (view x))
    ∙ append_assoc before (items_text (items_view (take i items))) (comma_before i ++ term_text (view x))
    ∙ ap (λ (bs : List ℕ). before ++ bs) (sym all ∙ ap (λ (ts : List Term). items_text (items_view ts)) (sym more))
  where
    length-take-of : (xs : List Term) (k : ℕ) → k < length xs → length (take k xs) ≡ k
    length-take-of xs k l = omega (arith, length-take k xs)
