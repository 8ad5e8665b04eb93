-- Terms are the same where their parts are.
use Rattle.std.proofs.Common.{◌≡◌, ℕ, ◌<◌, length, get_or, List, [], ◌∷◌, map, refl, sym, ap, ◌∙◌, subst, true, false}
use Rattle.std.specs.Prelude.{Bool, Option, Some, None, Box, IsTrue, ◌↔◌}
use Rattle.std.specs.declared.alloc.Global.{Global}
use Rattle.std.specs.Global.{Vec}
use Rattle.erl_term.specs.Data.{Data, improper, list, tuple}
use Rattle.erl_term.specs.View.{items_of, items_view, view}
use Rattle.erl_term.specs.declared.term.Term.{Term}
use Rattle.erl_term.specs.declared.term.Term.TheVariants as term
use Rattle.node_history.specs.Tails.{tail_of}
use Rattle.node_history.proofs.Places.{at_place}
use Rattle.erl_term.proofs.Terms.{view-improper, view-list, view-tuple}

same_items : (xs ys : List Data) → items_of xs ≡ items_of ys → xs ≡ ys
same_items [] [] h = refl
same_items [] (y ∷ ys) h = absurd cc
same_items (x ∷ xs) [] h = absurd cc
same_items (x ∷ xs) (y ∷ ys) h =
    let rest : items_of xs ≡ items_of ys = cc in
    let first : x ≡ y = cc in
    ap (λ z. z ∷ xs) first ∙ ap (λ zs. y ∷ zs) (same_items xs ys rest)

pub same_tuples : (a b : Term) (v w : Vec Term) (xs ys : List Term) (r : Bool) → a ≡ term.Tuple v → b ≡ term.Tuple w
    → xs ≡ v.items → ys ≡ w.items
    → (IsTrue r ↔ (map view xs ≡ map view ys)) → (IsTrue r ↔ (view a ≡ view b))
same_tuples a b v w xs ys r is bis x y h =
    let va = view-tuple a v is in
    let vb = view-tuple b w bis in (
      (λ t. va ∙ ap (λ z. tuple (items_of z)) (ap (map view) (sym x) ∙ h.0 t ∙ ap (map view) y) ∙ sym vb),
      (λ e. let same : items_view v.items ≡ items_view w.items = cc in
          h.1 (ap (map view) x ∙ same_items _ _ same ∙ ap (map view) (sym y))),
    )

same_view : (a b : Term) (v w : Vec Term) (o p : Option (Box Term Global)) → a ≡ term.List v o → b ≡ term.List w p
    → map view v.items ≡ map view w.items → tail_of o ≡ tail_of p → view a ≡ view b
same_view a b v w None None is bis i t = view-list a v None is refl ∙ ap (λ z. list (items_of z)) i ∙ sym (view-list b w None bis refl)
same_view a b v w None (Some y) is bis i t = absurd cc
same_view a b v w (Some x) None is bis i t = absurd cc
same_view a b v w (Some x) (Some y) is bis i t =
    let tails : view x.value ≡ view y.value = cc in
    view-improper a v (Some x) x is refl ∙ ap (λ z. improper (items_of z) (view x.value)) i ∙ ap (improper (items_view w.items)) tails
    ∙ sym (view-improper b w (Some y) y bis refl)

same_parts : (a b : Term) (v w : Vec Term) (o p : Option (Box Term Global)) → a ≡ term.List v o → b ≡ term.List w p → view a ≡ view b
    → (map view v.items ≡ map view w.items) × (tail_of o ≡ tail_of p)
same_parts a b v w None None is bis e =
    let va = view-list a v None is refl in
    let vb = view-list b w None bis refl in
    let same : items_view v.items ≡ items_view w.items = cc in
    (same_items _ _ same, refl)
same_parts a b v w None (Some y) is bis e =
    let va = view-list a v None is refl in let vb = view-improper b w (Some y) y bis refl in absurd cc
same_parts a b v w (Some x) None is bis e =
    let va = view-improper a v (Some x) x is refl in let vb = view-list b w None bis refl in absurd cc
same_parts a b v w (Some x) (Some y) is bis e =
    let va = view-improper a v (Some x) x is refl in
    let vb = view-improper b w (Some y) y bis refl in
    let same : items_view v.items ≡ items_view w.items = cc in
    let tails : view x.value ≡ view y.value = cc in
    (same_items _ _ same, ap (λ d. Some d) tails)

pub other_items : (a b : Term) (v w : Vec Term) (o p : Option (Box Term Global)) (xs ys : List Term) (r : Bool)
    → a ≡ term.List v o → b ≡ term.List w p → xs ≡ v.items
    → ys ≡ w.items → r ≡ false → (IsTrue r ↔ (map view xs ≡ map view ys)) → (IsTrue r ↔ (view a ≡ view b))
other_items a b v w o p xs ys r is bis x y not_these h = (
  (λ t. let f : false ≡ true = subst (λ q. IsTrue q) not_these t in absurd cc),
  (λ e. h.1 (ap (map view) x ∙ (same_parts a b v w o p is bis e).0 ∙ ap (map view) (sym y))),
)

pub not_at : (xs ys : List Term) (k : ℕ) (x y : Term) (r : Bool) → x ≡ get_or xs k x → y ≡ get_or ys k y → k < length xs
    → k < length ys → r ≡ false
    → (IsTrue r ↔ (view x ≡ view y)) → (IsTrue false ↔ (map view xs ≡ map view ys))
not_at xs ys k x y r i j lx ly not_these h =
    ((λ t. let f : false ≡ true = t in absurd cc), (λ e. subst (λ q. IsTrue q) not_these (h.1 (at_place view xs ys k x y i j lx ly e))))
