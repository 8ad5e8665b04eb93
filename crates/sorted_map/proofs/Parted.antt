-- Searches, insertions and removals in a list, by the two sides of one of its items.
use Rattle.std.proofs.Common.{◌≡◌, ◌≤◌, Bool, true, false, cond, List, [], ◌∷◌, ◌++◌, Option, None, Some, refl, sym, ap, subst, ◌∙◌, arith}
use Rattle.std.specs.declared.cmp.Ordering.{Ordering}
use Rattle.std.specs.declared.cmp.Ordering.TheVariants.{Less, Equal, Greater}
use Rattle.std.specs.Ordering.{is_lt, is_eq, ordering_index}
use Rattle.std.specs.List.{last_or}
use Rattle.sorted_map.specs.Indexed.{NoneLower, IsParted, first_not_less, with_slot, without_tied, first_tied}

-- a lesser one doesn't tie
not_tied : (o : Ordering) → is_lt o ≡ true → is_eq o ≡ false
not_tied Less h = refl
not_tied _ h = cc

-- one that isn't lower than a greater one doesn't tie
above : (a b : Ordering) → ordering_index a ≤ ordering_index b → is_lt a ≡ false → is_eq a ≡ false → is_eq b ≡ false
above Less b h l e = cc
above Equal b h l e = cc
above Greater Less h l e = absurd (omega arith)
above Greater Equal h l e = absurd (omega arith)
above Greater Greater h l e = refl

-- one that stands no higher than a lesser one is less
below : (a b : Ordering) → ordering_index a ≤ ordering_index b → is_lt b ≡ true → is_lt a ≡ true
below Less b h l = refl
below Equal Less h l = absurd (omega arith)
below Equal Equal h l = cc
below Equal Greater h l = cc
below Greater Less h l = absurd (omega arith)
below Greater Equal h l = cc
below Greater Greater h l = cc

-- the last item lies behind the one in the middle, or is that
pub last_behind : {A : Type 0} (found : Option A) (left : List A) (item : A) (right : List A)
    → last_or found (left ++ item ∷ right) ≡ last_or (Some item) right
last_behind found [] item right = refl
last_behind found (first ∷ left) item right = last_behind (Some first) left item right

-- the other one, where there is none
abbrev pub or_else : {A : Type 0} → Option A → Option A → Option A
or_else None o = o
or_else (Some item) o = Some item

or_else_some : {A : Type 0} (first : Option A) (item : A) (last : Option A) → or_else (or_else first (Some item)) last ≡ or_else first (Some item)
or_else_some None item last = refl
or_else_some (Some first) item last = refl

module _ {A : Type 0} (order : A → Ordering) where
  -- none of the items stands higher than this one
  abbrev NoneHigher : List A → A → Type 0
  NoneHigher [] item = Unit {0}
  NoneHigher (first ∷ rest) item = (ordering_index (order first) ≤ ordering_index (order item)) × NoneHigher rest item

  -- the two sides of a item
  record Parting (left : List A) (item : A) (right : List A) : Type 0 where
    before : IsParted order left
    behind : IsParted order right
    none_higher : NoneHigher left item
    none_lower : NoneLower order item right

  lower_parts : (first : A) (left : List A) (item : A) (right : List A) → NoneLower order first (left ++ item ∷ right)
      → NoneLower order first left × (ordering_index (order first) ≤ ordering_index (order item))
  lower_parts first [] item right h = (tt, h.0)
  lower_parts first (next ∷ left) item right h = let t = lower_parts first left item right h.1 in ((h.0, t.0), t.1)

  parting : (left : List A) (item : A) (right : List A) → IsParted order (left ++ item ∷ right) → Parting left item right
  parting [] item right h = record { before = tt; behind = h.1; none_higher = tt; none_lower = h.0 }
  parting (first ∷ left) item right h =
      let t = parting left item right h.1 in
      let l = lower_parts first left item right h.0 in
      record { before = (l.0, t.before); behind = t.behind; none_higher = (l.1, t.none_higher); none_lower = t.none_lower }

  -- the item is less: the place that is sought lies to the right
  first_right : (left : List A) (item : A) (right : List A) → is_lt (order item) ≡ true → NoneHigher left item
      → first_not_less order (left ++ item ∷ right) ≡ first_not_less order right
  first_right [] item right l h = ap (λ b. cond b (first_not_less order right) (Some item)) l
  first_right (first ∷ left) item right l h =
      ap (λ b. cond b (first_not_less order (left ++ item ∷ right)) (Some first)) (below _ _ h.0 l) ∙ first_right left item right l h.1

  with_right : (new : A) (left : List A) (item : A) (right : List A) → is_lt (order item) ≡ true → NoneHigher left item
      → with_slot order new (left ++ item ∷ right) ≡ left ++ item ∷ with_slot order new right
  with_right new [] item right l h = ap (λ b. cond b (item ∷ with_slot order new right) (new ∷ item ∷ right)) l
  with_right new (first ∷ left) item right l h =
      ap (λ b. cond b (first ∷ with_slot order new (left ++ item ∷ right)) (new ∷ first ∷ left ++ item ∷ right)) (below _ _ h.0 l)
      ∙ ap (λ k. first ∷ k) (with_right new left item right l h.1)

  without_right : (left : List A) (item : A) (right : List A) → is_lt (order item) ≡ true → NoneHigher left item
      → without_tied order (left ++ item ∷ right) ≡ left ++ item ∷ without_tied order right
  without_right [] item right l h = ap (λ b. cond b right (item ∷ without_tied order right)) (not_tied _ l)
  without_right (first ∷ left) item right l h =
      ap (λ b. cond b (left ++ item ∷ right) (first ∷ without_tied order (left ++ item ∷ right))) (not_tied _ (below _ _ h.0 l))
      ∙ ap (λ k. first ∷ k) (without_right left item right l h.1)

  tied_right : (left : List A) (item : A) (right : List A) → is_lt (order item) ≡ true → NoneHigher left item
      → first_tied order (left ++ item ∷ right) ≡ first_tied order right
  tied_right [] item right l h = ap (λ b. cond b (Some item) (first_tied order right)) (not_tied _ l)
  tied_right (first ∷ left) item right l h =
      ap (λ b. cond b (Some first) (first_tied order (left ++ item ∷ right))) (not_tied _ (below _ _ h.0 l))
      ∙ tied_right left item right l h.1

  -- the item isn't less: the place that is sought lies to the left, or right before the item
  first_left : (left : List A) (item : A) (right : List A) → is_lt (order item) ≡ false
      → first_not_less order (left ++ item ∷ right) ≡ or_else (first_not_less order left) (Some item)
  first_left [] item right l = ap (λ b. cond b (first_not_less order right) (Some item)) l
  first_left (first ∷ left) item right l = go (is_lt (order first)) (first_left left item right l)
    where
      go : (b : Bool) → first_not_less order (left ++ item ∷ right) ≡ or_else (first_not_less order left) (Some item)
          → cond b (first_not_less order (left ++ item ∷ right)) (Some first)
          ≡ or_else (cond b (first_not_less order left) (Some first)) (Some item)
      go true e = e
      go false e = refl

  with_left : (new : A) (left : List A) (item : A) (right : List A) → is_lt (order item) ≡ false
      → with_slot order new (left ++ item ∷ right) ≡ with_slot order new left ++ item ∷ right
  with_left new [] item right l = ap (λ b. cond b (item ∷ with_slot order new right) (new ∷ item ∷ right)) l
  with_left new (first ∷ left) item right l = go (is_lt (order first)) (with_left new left item right l)
    where
      go : (b : Bool) → with_slot order new (left ++ item ∷ right) ≡ with_slot order new left ++ item ∷ right
          → cond b (first ∷ with_slot order new (left ++ item ∷ right)) (new ∷ first ∷ left ++ item ∷ right)
          ≡ cond b (first ∷ with_slot order new left) (new ∷ first ∷ left) ++ item ∷ right
      go true e = ap (λ k. first ∷ k) e
      go false e = refl

  -- one on the left ties
  tied_left : (left right : List A) (tied : A) → first_tied order left ≡ Some tied
      → (without_tied order (left ++ right) ≡ without_tied order left ++ right) × (first_tied order (left ++ right) ≡ Some tied)
  tied_left [] right tied h = cc
  tied_left (first ∷ left) right tied h = go (is_eq (order first)) h (tied_left left right tied)
    where
      go : (b : Bool) → cond b (Some first) (first_tied order left) ≡ Some tied
          → (first_tied order left ≡ Some tied
          → (without_tied order (left ++ right) ≡ without_tied order left ++ right) × (first_tied order (left ++ right) ≡ Some tied))
          → (cond b (left ++ right) (first ∷ without_tied order (left ++ right)) ≡ cond b left (first ∷ without_tied order left) ++ right)
          × (cond b (Some first) (first_tied order (left ++ right)) ≡ Some tied)
      go true e k = (refl, e)
      go false e k = let t = k e in (ap (λ l. first ∷ l) t.0, t.1)

  -- none on the left ties
  none_left : (left right : List A) → first_tied order left ≡ None
      → (without_tied order (left ++ right) ≡ left ++ without_tied order right) × (first_tied order (left ++ right) ≡ first_tied order right)
  none_left [] right h = (refl, refl)
  none_left (first ∷ left) right h = go (is_eq (order first)) h (none_left left right)
    where
      go : (b : Bool) → cond b (Some first) (first_tied order left) ≡ None
          → (first_tied order left ≡ None
          → (without_tied order (left ++ right) ≡ left ++ without_tied order right) × (first_tied order (left ++ right) ≡ first_tied order right))
          → (cond b (left ++ right) (first ∷ without_tied order (left ++ right)) ≡ first ∷ left ++ without_tied order right)
          × (cond b (Some first) (first_tied order (left ++ right)) ≡ first_tied order right)
      go true e k = cc
      go false e k = let t = k e in (ap (λ l. first ∷ l) t.0, t.1)

  -- none behind a greater one ties
  none_behind : (item : A) (right : List A) → is_lt (order item) ≡ false → is_eq (order item) ≡ false → NoneLower order item right
      → (without_tied order right ≡ right) × (first_tied order right ≡ None)
  none_behind item [] l e h = (refl, refl)
  none_behind item (next ∷ right) l e h =
      let rest = none_behind item right l e h.1 in
      let other = above (order item) (order next) h.0 l e in (
        ap (λ b. cond b right (next ∷ without_tied order right)) other ∙ ap (λ l. next ∷ l) rest.0,
        ap (λ b. cond b (Some next) (first_tied order right)) other ∙ rest.1,
      )

  none_goes : (left : List A) → first_tied order left ≡ None → without_tied order left ≡ left
  none_goes [] h = refl
  none_goes (first ∷ left) h = go (is_eq (order first)) h (none_goes left)
    where
      go : (b : Bool) → cond b (Some first) (first_tied order left) ≡ None → (first_tied order left ≡ None → without_tied order left ≡ left)
          → cond b left (first ∷ without_tied order left) ≡ first ∷ left
      go true e k = cc
      go false e k = ap (λ l. first ∷ l) (k e)

  -- the item ties, and none before it
  tied_here : (left : List A) (item : A) (right : List A) → first_tied order left ≡ None → is_eq (order item) ≡ true
      → (without_tied order (left ++ item ∷ right) ≡ without_tied order left ++ right) × (first_tied order (left ++ item ∷ right) ≡ Some item)
  tied_here left item right none e =
      let t = none_left left (item ∷ right) none in (
        t.0 ∙ ap (λ b. left ++ cond b right (item ∷ without_tied order right)) e ∙ ap (λ l. l ++ right) (sym (none_goes left none)),
        t.1 ∙ ap (λ b. cond b (Some item) (first_tied order right)) e,
      )

  -- the item is greater, and none before it ties
  tied_nowhere : (left : List A) (item : A) (right : List A) → first_tied order left ≡ None → is_lt (order item) ≡ false
      → is_eq (order item) ≡ false → NoneLower order item right
      → (without_tied order (left ++ item ∷ right) ≡ without_tied order left ++ item ∷ right) × (first_tied order (left ++ item ∷ right) ≡ None)
  tied_nowhere left item right none l e h =
      let t = none_left left (item ∷ right) none in
      let r = none_behind item right l e h in (
        t.0 ∙ ap (λ b. left ++ cond b right (item ∷ without_tied order right)) e ∙ ap (λ k. left ++ item ∷ k) r.0
            ∙ ap (λ k. k ++ item ∷ right) (sym (none_goes left none)),
        t.1 ∙ ap (λ b. cond b (Some item) (first_tied order right)) e ∙ r.1,
      )

  -- the new list, and the item that has gone from the old one
  abbrev Removal : List A → List A → Option A → Type 0
  Removal old new found = (new ≡ without_tied order old) × (found ≡ first_tied order old)

  -- a list with a left and a right side of one of its items, and the answer that was given at that item
  module _ (left : List A) (item : A) (right : List A) (whole : List A) (gave : Ordering) (is : left ++ item ∷ right ≡ whole)
      (answer : gave ≡ order item) (parted : IsParted order whole) where
    sides : Parting left item right
    sides = parting left item right (subst (IsParted order) (sym is) parted)

    gave_less : (b : Bool) → is_lt gave ≡ b → is_lt (order item) ≡ b
    gave_less b h = ap is_lt (sym answer) ∙ h

    gave_tied : (b : Bool) → is_eq gave ≡ b → is_eq (order item) ≡ b
    gave_tied b h = ap is_eq (sym answer) ∙ h

    -- the search goes on to the right, or to the left
    pub found_right : (found : Option A) → is_lt gave ≡ true
        → IsParted order right × (or_else (first_not_less order right) found ≡ or_else (first_not_less order whole) found)
    found_right found h =
        (sides.behind, ap (λ o. or_else o found) (sym (first_right left item right (gave_less _ h) sides.none_higher) ∙ ap (first_not_less order) is))

    pub found_left : (found : Option A) → is_lt gave ≡ false
        → IsParted order left × (or_else (first_not_less order left) (Some item) ≡ or_else (first_not_less order whole) found)
    found_left found h = (
      sides.before,
      sym (or_else_some (first_not_less order left) item found)
          ∙ ap (λ o. or_else o found) (sym (first_left left item right (gave_less _ h)) ∙ ap (first_not_less order) is),
    )

    -- the new item comes to the right, or to the left
    pub inserted_right : (new : A) (rest : List A) → is_lt gave ≡ true → (IsParted order right → rest ≡ with_slot order new right)
        → left ++ item ∷ rest ≡ with_slot order new whole
    inserted_right new rest h by =
        ap (λ l. left ++ item ∷ l) (by sides.behind) ∙ sym (with_right new left item right (gave_less _ h) sides.none_higher)
        ∙ ap (with_slot order new) is

    pub inserted_left : (new : A) (rest : List A) → is_lt gave ≡ false → (IsParted order left → rest ≡ with_slot order new left)
        → rest ++ item ∷ right ≡ with_slot order new whole
    inserted_left new rest h by =
        ap (λ l. l ++ item ∷ right) (by sides.before) ∙ sym (with_left new left item right (gave_less _ h)) ∙ ap (with_slot order new) is

    -- the item that ties, if there is one, lies to the right
    pub removed_right : (rest : List A) (found : Option A) → is_lt gave ≡ true → (IsParted order right → Removal right rest found)
        → Removal whole (left ++ item ∷ rest) found
    removed_right rest found h by =
        let done = by sides.behind in
        let less = gave_less _ h in (
          ap (λ l. left ++ item ∷ l) done.0 ∙ sym (without_right left item right less sides.none_higher) ∙ ap (without_tied order) is,
          done.1 ∙ sym (tied_right left item right less sides.none_higher) ∙ ap (first_tied order) is,
        )

    -- it lies to the left
    pub removed_left : (rest : List A) (found : Option A) (tied : A) → found ≡ Some tied → (IsParted order left → Removal left rest found)
        → Removal whole (rest ++ item ∷ right) (Some tied)
    removed_left rest found tied some by =
        let done = by sides.before in
        let there = tied_left left (item ∷ right) tied (sym done.1 ∙ some) in
        (ap (λ l. l ++ item ∷ right) done.0 ∙ sym there.0 ∙ ap (without_tied order) is, sym there.1 ∙ ap (first_tied order) is)

    -- it is this one
    pub removed_here : (rest : List A) (found : Option A) → found ≡ None → is_eq gave ≡ true → (IsParted order left → Removal left rest found)
        → Removal whole (rest ++ right) (Some item)
    removed_here rest found none h by =
        let done = by sides.before in
        let there = tied_here left item right (sym done.1 ∙ none) (gave_tied _ h) in
        (ap (λ l. l ++ right) done.0 ∙ sym there.0 ∙ ap (without_tied order) is, sym there.1 ∙ ap (first_tied order) is)

    -- there is none
    pub removed_nowhere : (rest : List A) (found : Option A) → found ≡ None → is_lt gave ≡ false → is_eq gave ≡ false
        → (IsParted order left → Removal left rest found) → Removal whole (rest ++ item ∷ right) None
    removed_nowhere rest found none h k by =
        let done = by sides.before in
        let there = tied_nowhere left item right (sym done.1 ∙ none) (gave_less _ h) (gave_tied _ k) sides.none_lower in
        (ap (λ l. l ++ item ∷ right) done.0 ∙ sym there.0 ∙ ap (without_tied order) is, sym there.1 ∙ ap (first_tied order) is)
