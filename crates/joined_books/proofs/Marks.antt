-- Marks, one thing at a time.
use Rattle.std.proofs.Common.{◌≡◌, ◌⊎◌, ℕ, zero, suc, ◌+◌, ◌<◌, ◌≤◌, Bool, true, false, List, [], ◌∷◌, ◌++◌, ◌==◌, set, inl, inr}
use Rattle.std.proofs.Common.{refl, sym, ap, ◌∙◌, subst, arith, append_assoc, length, take, drop, slice_index_or, slice_set}
use Rattle.std.specs.List.{Contains, count_by}
use Rattle.std.proofs.Math.ListN.{length-set}
use Rattle.std.proofs.lemmas.Bool.Decides.{eqb_tells}
use Rattle.std.proofs.lemmas.Grind.{get_or-set_at}
use Rattle.std.proofs.lemmas.List.{get_or-set_other, take_more}
use Rattle.std.proofs.lemmas.List.Elements.{All-append, All-contains, All-cons, All-nil}
use Rattle.std.proofs.lemmas.List.Elements.{Contains-append_left, Contains-append_right, Contains-push}
use Rattle.joined_books.proofs.EachOnce.{bit, count_append, count_cons, each_once, times}
use Rattle.joined_books.specs.Marks.{AreMarked, IsStrange}

module _ {X : Type 0} (place : X → ℕ) (IsThere : X → Type 0) where
  abbrev at_place : ℕ → X → Bool
  at_place at x = place x == at

  one_times : (at : ℕ) (x : X) → times place at (x ∷ []) ≡ bit (place x == at)
  one_times at x = let c = count_cons (at_place at) x [] in omega arith

  push_times : (at : ℕ) (xs : List X) (x : X) → times place at (xs ++ x ∷ []) ≡ times place at xs + bit (place x == at)
  push_times at xs x = let a = count_append (at_place at) xs (x ∷ []) in let c = one_times at x in omega arith

  pub marked_next : (size : ℕ) (marks new : List Bool) (xs : List X) (x : X) → AreMarked place IsThere size marks xs → IsThere x
      → place x < length marks → slice_index_or marks (place x) false ≡ false → new ≡ slice_set marks (place x) true
      → AreMarked place IsThere size new (xs ++ x ∷ [])
  marked_next size marks new xs x marked stands within free is = record {
    lens = ap (λ l. length l) is ∙ length-set marks (place x) true ∙ marked.lens;
    stand = All-append IsThere xs (x ∷ []) marked.stand (All-cons IsThere x [] stands (All-nil IsThere));
    marked = λ at. push_times at xs x ∙
        elim (eqb_tells (place x) at) [
          | inl e ↦ (
              let now : slice_index_or new at false ≡ true =
              ap (λ l. slice_index_or l at false) is ∙ get_or-set_at marks (place x) at true false (sym e.1) within in
              let was = marked.marked at in
              let none : bit (slice_index_or marks at false) ≡ 0 = ap (λ n. bit (slice_index_or marks n false)) (sym e.1) ∙ ap bit free in
              let one = ap bit now in
              let b = ap bit e.0 in
              omega arith)
          | inr e ↦ (
              let now : slice_index_or new at false ≡ slice_index_or marks at false =
              ap (λ l. slice_index_or l at false) is ∙ get_or-set_other marks (place x) at true false (λ s. e.1 (sym s)) in
              let was = marked.marked at in
              let same = ap bit now in
              let b = ap bit e.0 in
              omega arith)
        ];
  }

  pub strange_next : (size : ℕ) (marks : List Bool) (xs : List X) (x : X) → AreMarked place IsThere size marks xs
      → (IsThere x → ⊥) ⊎ (slice_index_or marks (place x) false ≡ true) → IsStrange place IsThere (xs ++ x ∷ []) (place x)
  strange_next size marks xs x marked why = record {
    one = x;
    there = Contains-push xs x;
    place_is = refl;
    strange = elim why [
      | inl h ↦ inl h
      | inr h ↦ inr (
          let was = marked.marked (place x) in
          let full = ap bit h in
          let all = push_times (place x) xs x in
          elim (eqb_tells (place x) (place x)) [ inl e ↦ (let b = ap bit e.0 in omega arith) | inr e ↦ absurd (e.1 refl) ])
    ];
  }

  pub strange_more : (xs ys : List X) (at : ℕ) → IsStrange place IsThere xs at → IsStrange place IsThere (xs ++ ys) at
  strange_more xs ys at h = record {
    one = h.one;
    there = Contains-append_left xs ys h.one h.there;
    place_is = h.place_is;
    strange = elim h.strange [
      | inl never ↦ inl never
      | inr two ↦ inr (let a = count_append (at_place at) xs ys in omega arith)
    ];
  }

  -- ---- a loop over some of them, behind others

  pub marks_more : (size : ℕ) (marks new : List Bool) (before xs : List X) (i : ℕ) (x : X) → i < length xs → x ≡ slice_index_or xs i x
      → AreMarked place IsThere size marks (before ++ take i xs) → IsThere x
      → place x < length marks → slice_index_or marks (place x) false ≡ false → new ≡ slice_set marks (place x) true
      → AreMarked place IsThere size new (before ++ take (i + 1) xs)
  marks_more size marks new before xs i x below is marked stands within free set =
      subst (λ l. AreMarked place IsThere size new l) (pushed before xs i x below is)
      (marked_next size marks new (before ++ take i xs) x marked stands within free set)
    where
      pushed : (before xs : List X) (i : ℕ) (x : X) → i < length xs → x ≡ slice_index_or xs i x
          → (before ++ take i xs) ++ x ∷ [] ≡ before ++ take (i + 1) xs
      pushed before xs i x below is =
          append_assoc before (take i xs) (x ∷ []) ∙ ap (λ l. before ++ l) (ap (λ y. take i xs ++ y ∷ []) is ∙ sym (take_more xs i x below))

  pub strange_here : (size : ℕ) (marks : List Bool) (before xs : List X) (i : ℕ) (x : X) → i < length xs → x ≡ slice_index_or xs i x
      → AreMarked place IsThere size marks (before ++ take i xs) → (IsThere x → ⊥) ⊎ (slice_index_or marks (place x) false ≡ true)
      → IsStrange place IsThere (before ++ xs) (place x)
  strange_here size marks before xs i x below is marked why =
      subst (λ l. IsStrange place IsThere l (place x)) (split before xs i x below is)
      (strange_more ((before ++ take i xs) ++ x ∷ []) (drop (suc i) xs) (place x)
      (strange_next size marks (before ++ take i xs) x marked why))
    where
      around : (xs : List X) (i : ℕ) (x : X) → i < length xs → x ≡ slice_index_or xs i x → take i xs ++ x ∷ drop (suc i) xs ≡ xs
      around [] i x below is = absurd (omega arith)
      around (y ∷ ys) zero x below is = ap (λ z. z ∷ ys) is
      around (y ∷ ys) (suc i) x below is = ap (λ l. y ∷ l) (around ys i x (omega arith) is)

      split : (before xs : List X) (i : ℕ) (x : X) → i < length xs → x ≡ slice_index_or xs i x
          → ((before ++ take i xs) ++ x ∷ []) ++ drop (suc i) xs ≡ before ++ xs
      split before xs i x below is =
          append_assoc (before ++ take i xs) (x ∷ []) (drop (suc i) xs) ∙ append_assoc before (take i xs) (x ∷ drop (suc i) xs)
          ∙ ap (λ l. before ++ l) (around xs i x below is)

  -- ---- none yet, and all

  pub none_marked : (size : ℕ) (marks : List Bool) → length marks ≡ size → ((p : ℕ) → slice_index_or marks p false ≡ false)
      → AreMarked place IsThere size marks []
  none_marked size marks lens free = record { lens = lens; stand = All-nil IsThere; marked = λ at. sym (ap bit (free at)) }

  contained : (at : ℕ) (xs : List X) → 0 < times place at xs → (x : X) × Contains xs x × (place x ≡ at)
  contained at [] some = absurd (omega arith)
  contained at (x ∷ xs) some =
      let c = count_cons (at_place at) x xs in
      elim (eqb_tells (place x) at) [
        | inl e ↦ (x, (0, omega arith, refl), e.1)
        | inr e ↦ (
            let b = ap bit e.0 in
            let h = contained at xs (omega arith) in
            (h.0, Contains-append_right (x ∷ []) xs h.0 h.1, h.2))
      ]

  -- where each that stands is at one of the places that there may be, and there are as many, each of these places has one
  pub all_marked : (size : ℕ) (marks may : List Bool) (xs : List X) → AreMarked place IsThere size marks xs
      → ((x : X) → IsThere x → slice_index_or may (place x) false ≡ true) → length xs ≡ count_by (λ b. b) may
      → (at : ℕ) → times place at xs ≡ bit (slice_index_or may at false)
  all_marked size marks may xs marked standing as_many =
      each_once place may xs (λ at. most at (slice_index_or may at false) refl (slice_index_or marks at false) refl) as_many
    where
      at_most_one : (b : Bool) → bit b ≤ 1
      at_most_one true = omega arith
      at_most_one false = omega arith

      most : (at : ℕ) (m : Bool) → slice_index_or may at false ≡ m → (b : Bool) → slice_index_or marks at false ≡ b
          → times place at xs ≤ bit (slice_index_or may at false)
      most at true is b marks_are =
          let t = marked.marked at in let one = ap bit is in let few = at_most_one (slice_index_or marks at false) in omega arith
      most at false is false marks_are = let t = marked.marked at in let none = ap bit marks_are in omega arith
      most at false is true marks_are =
          let t = marked.marked at in
          let one = ap bit marks_are in
          let h = contained at xs (omega arith) in
          absurd (let no : false ≡ true =
          sym is ∙ ap (λ n. slice_index_or may n false) (sym h.2) ∙ standing h.0 (All-contains IsThere xs h.0 marked.stand h.1) in cc)
