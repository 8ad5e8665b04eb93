-- A change of a value, by the two sides of one of the entries.
use Rattle.std.proofs.Common.{◌≡◌, ◌<◌, Bool, true, false, cond, T, List, [], ◌∷◌, ◌++◌, length, length-append, Option, None, Some, is_some, refl, sym, ap, subst, ◌∙◌, arith}
use Rattle.std.specs.declared.cmp.Ordering.{Ordering}
use Rattle.std.specs.declared.cmp.Ordering.TheVariants.{Less, Equal, Greater}
use Rattle.std.specs.Ordering.{is_eq}
use Rattle.std.specs.Cmp.{IsTotalOrder}
use Rattle.std.specs.FinMap.{find, put, is_sorted}
use Rattle.std.specs.FinMap.Entries.{by_order, below_all}
use Rattle.sorted_map.specs.Facts.{both_pass, joined, less, find_below_all}
use Rattle.sorted_map.specs.Entries.{changed}
use Rattle.sorted_map.specs.Mapped.{present, AllPresent, AreEntries}
use Rattle.sorted_map.proofs.Places.{less_than_tied, greater_of_less, less_of_greater, tied_back, all_greater}
use Rattle.sorted_map.proofs.Mapped.{present_both, there_parts, there_both}

pub shorter_right : {A : Type 0} (left : List A) (x : A) (right whole : List A) → left ++ x ∷ right ≡ whole → length right < length whole
shorter_right left x right whole is =
    let l = ap length is in
    omega (arith, length-append left (x ∷ right))

pub shorter_left : {A : Type 0} (left : List A) (x : A) (right whole : List A) → left ++ x ∷ right ≡ whole → length left < length whole
shorter_left left x right whole is =
    let l = ap length is in
    omega (arith, length-append left (x ∷ right))

-- each node has an entry
pub never_none : {A : Type 0} (left right whole : List (Option A)) (x : Option A) → left ++ x ∷ right ≡ whole → AllPresent whole
    → x ≡ None → ⊥
never_none left right whole x is all none =
    let t = there_parts left (x ∷ right) (subst AllPresent (sym is) all) in
    subst (λ o. AllPresent (o ∷ right)) none t.1

module _ {K V : Type 0} {cmp : K → K → Ordering} (total : IsTotalOrder cmp) where
  -- each of the keys is less than this one
  abbrev AllLess : List (K × V) → K → Type 0
  AllLess [] key = Unit {0}
  AllLess (first ∷ rest) key = (cmp first.0 key ≡ Less) × AllLess rest key

  -- the two sides of an entry
  record Sorting (left : List (K × V)) (e : K × V) (right : List (K × V)) : Type 0 where
    before : T (is_sorted cmp left)
    behind : T (is_sorted cmp right)
    lower : AllLess left e.0
    above : T (below_all cmp e.0 right)

  below_parts : (key : K) (left : List (K × V)) (e : K × V) (right : List (K × V)) → T (below_all cmp key (left ++ e ∷ right))
      → T (below_all cmp key left) × (cmp key e.0 ≡ Less)
  below_parts key [] e right h = (tt, less _ (both_pass _ _ h).0)
  below_parts key (first ∷ left) e right h =
      let t = both_pass _ _ h in let l = below_parts key left e right t.1 in (joined _ _ t.0 l.0, l.1)

  sorting : (left : List (K × V)) (e : K × V) (right : List (K × V)) → T (is_sorted cmp (left ++ e ∷ right)) → Sorting left e right
  sorting [] e right h = let t = both_pass _ _ h in record { before = tt; behind = t.1; lower = tt; above = t.0 }
  sorting (first ∷ left) e right h =
      let t = both_pass _ _ h in
      let l = below_parts first.0 left e right t.0 in
      let s = sorting left e right t.1 in
      record { before = joined _ _ l.0 s.before; behind = s.behind; lower = (l.1, s.lower); above = s.above }

  module _ (key : K) (value : V) where
    -- what a list of entries has, and what it becomes
    abbrev got : List (K × V) → Option V
    got es = find cmp key es

    abbrev set : List (K × V) → List (K × V)
    set es = put cmp key value es

    abbrev found : K × V → List (K × V) → Ordering → Option V
    found e rest o = cond (is_eq o) (Some e.1) (got rest)

    abbrev came : K × V → List (K × V) → Ordering → List (K × V)
    came e rest o = by_order o ((key, value) ∷ e ∷ rest) ((e.0, value) ∷ rest) (e ∷ set rest)

    -- each of the lesser keys is passed by
    passed : (left : List (K × V)) (rest : List (K × V)) → AllLess left key
        → (got (left ++ rest) ≡ got rest) × (set (left ++ rest) ≡ left ++ set rest)
    passed [] rest h = (refl, refl)
    passed (first ∷ left) rest h =
        let t = passed left rest h.1 in
        let g = greater_of_less total first.0 key h.0 in (
          ap (found first (left ++ rest)) g ∙ t.0,
          ap (came first (left ++ rest)) g ∙ ap (λ l. first ∷ l) t.1,
        )

    less_by : (left : List (K × V)) (x : K) → ((y : K) → cmp y x ≡ Less → cmp y key ≡ Less) → AllLess left x → AllLess left key
    less_by [] x f h = tt
    less_by (first ∷ left) x f h = (f first.0 h.0, less_by left x f h.1)

    -- the key is that of the entry
    here : (left : List (K × V)) (e : K × V) (right : List (K × V)) → AllLess left e.0 → cmp e.0 key ≡ Equal
        → (got (left ++ e ∷ right) ≡ Some e.1) × (set (left ++ e ∷ right) ≡ left ++ (e.0, value) ∷ right)
    here left e right l h =
        let p = passed left (e ∷ right) (less_by left e.0 (λ y k. less_than_tied total y e.0 key k h) l) in
        let t = tied_back total e.0 key h in
        (p.0 ∙ ap (found e right) t, p.1 ∙ ap (λ o. left ++ came e right o) t)

    -- it lies behind the entry
    behind : (left : List (K × V)) (e : K × V) (right : List (K × V)) → AllLess left e.0 → cmp e.0 key ≡ Less
        → (got (left ++ e ∷ right) ≡ got right) × (set (left ++ e ∷ right) ≡ left ++ e ∷ set right)
    behind left e right l h =
        let p = passed left (e ∷ right) (less_by left e.0 (λ y k. total.trans y e.0 key k h) l) in
        let t = greater_of_less total e.0 key h in
        (p.0 ∙ ap (found e right) t, p.1 ∙ ap (λ o. left ++ came e right o) t)

    -- it lies before the entry
    before : (left : List (K × V)) (e : K × V) (right : List (K × V)) → T (below_all cmp e.0 right) → cmp e.0 key ≡ Greater
        → (got (left ++ e ∷ right) ≡ got left) × (set (left ++ e ∷ right) ≡ set left ++ e ∷ right)
    before [] e right a h =
        let l = less_of_greater total e.0 key h in
        (ap (found e right) l ∙ find_below_all cmp key right (all_greater total key e.0 right l a), ap (came e right) l)
    before (first ∷ left) e right a h = let t = before left e right a h in (step t.0, go (cmp key first.0) t.1)
      where
        step : got (left ++ e ∷ right) ≡ got left → got (first ∷ left ++ e ∷ right) ≡ got (first ∷ left)
        step k = ap (cond (is_eq (cmp key first.0)) (Some first.1)) k

        go : (o : Ordering) → set (left ++ e ∷ right) ≡ set left ++ e ∷ right
            → came first (left ++ e ∷ right) o ≡ came first left o ++ e ∷ right
        go Less k = refl
        go Equal k = refl
        go Greater k = ap (λ l. first ∷ l) k

    -- what becomes of the list where the key is there
    kept : (some : Bool) (old new all : List (K × V)) (grow : List (K × V) → List (K × V)) → grow old ≡ all
        → cond some (grow new) all ≡ grow (cond some new old)
    kept true old new all grow h = refl
    kept false old new all grow h = sym h

    -- a node with its two sides, and the entry in it
    module _ (left : List (Option (K × V))) (item : Option (K × V)) (right whole : List (Option (K × V))) (e : K × V)
        (is : left ++ item ∷ right ≡ whole) (has : item ≡ Some e) (entries : AreEntries cmp whole) where
      spelt : left ++ Some e ∷ right ≡ whole
      spelt = ap (λ i. left ++ i ∷ right) (sym has) ∙ is

      there : AllPresent left × AllPresent right
      there = there_parts left (Some e ∷ right) (subst AllPresent (sym spelt) entries.0)

      listed : present left ++ e ∷ present right ≡ present whole
      listed = sym (present_both left (Some e ∷ right)) ∙ ap present spelt

      sides : Sorting (present left) e (present right)
      sides = sorting (present left) e (present right) (subst (λ l. T (is_sorted cmp l)) (sym listed) entries.1)

      pub left_entries : AreEntries cmp left
      left_entries = (there.0, sides.before)

      pub right_entries : AreEntries cmp right
      right_entries = (there.1, sides.behind)

      -- the value is changed here, on the right, or on the left
      pub changed_here : cmp e.0 key ≡ Equal
          → AllPresent (left ++ Some (e.0, value) ∷ right)
          × ((present (left ++ Some (e.0, value) ∷ right) ≡ changed cmp key value (present whole)) × (Some e.1 ≡ find cmp key (present whole)))
      changed_here h =
          let t = here (present left) e (present right) sides.lower h in (
            there_both left (Some (e.0, value) ∷ right) there.0 there.1,
            (
              present_both left (Some (e.0, value) ∷ right) ∙ sym t.1
                  ∙ sym (ap (λ o. cond (is_some o) (set (present left ++ e ∷ present right)) (present left ++ e ∷ present right)) t.0)
                  ∙ ap (changed cmp key value) listed,
              sym t.0 ∙ ap got listed,
            ),
          )

      pub changed_right : cmp e.0 key ≡ Less → (new : List (Option (K × V))) → AllPresent new → present new ≡ changed cmp key value (present right)
          → AllPresent (left ++ Some e ∷ new)
          × ((present (left ++ Some e ∷ new) ≡ changed cmp key value (present whole)) × (find cmp key (present right) ≡ find cmp key (present whole)))
      changed_right h new all made =
          let t = behind (present left) e (present right) sides.lower h in
          let grown : List (K × V) → List (K × V) = λ l. present left ++ e ∷ l in (
            there_both left (Some e ∷ new) there.0 all,
            (
              present_both left (Some e ∷ new) ∙ ap grown made
                  ∙ sym (kept (is_some (got (present right))) (present right) (set (present right)) (grown (present right)) grown refl)
                  ∙ sym (ap (λ o. cond (is_some o) (grown (set (present right))) (grown (present right))) t.0)
                  ∙ sym (ap (λ l. cond (is_some (got (grown (present right)))) l (grown (present right))) t.1)
                  ∙ ap (changed cmp key value) listed,
              sym t.0 ∙ ap got listed,
            ),
          )

      pub changed_left : cmp e.0 key ≡ Greater → (new : List (Option (K × V))) → AllPresent new → present new ≡ changed cmp key value (present left)
          → AllPresent (new ++ Some e ∷ right)
          × ((present (new ++ Some e ∷ right) ≡ changed cmp key value (present whole)) × (find cmp key (present left) ≡ find cmp key (present whole)))
      changed_left h new all made =
          let t = before (present left) e (present right) sides.above h in
          let grown : List (K × V) → List (K × V) = λ l. l ++ e ∷ present right in (
            there_both new (Some e ∷ right) all there.1,
            (
              present_both new (Some e ∷ right) ∙ ap grown made
                  ∙ sym (kept (is_some (got (present left))) (present left) (set (present left)) (grown (present left)) grown refl)
                  ∙ sym (ap (λ o. cond (is_some o) (grown (set (present left))) (grown (present left))) t.0)
                  ∙ sym (ap (λ l. cond (is_some (got (grown (present left)))) l (grown (present left))) t.1)
                  ∙ ap (changed cmp key value) listed,
              sym t.0 ∙ ap got listed,
            ),
          )
