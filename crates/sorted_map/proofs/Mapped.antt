-- Searches, insertions and removals among the entries of a map, in the nodes of a tree.
use Rattle.std.proofs.Common.{◌≡◌, ◌≤◌, Bor, Bool, true, false, cond, not, T, List, [], ◌∷◌, ◌++◌, map, Option, None, Some, is_some, IsSome, refl, sym, ap, subst, ◌∙◌, arith}
use Rattle.std.specs.declared.cmp.Ordering.{Ordering}
use Rattle.std.specs.declared.cmp.Ordering.TheVariants.{Less, Equal, Greater}
use Rattle.std.specs.Ordering.{is_lt, is_eq, ordering_index}
use Rattle.std.specs.Cmp.{IsTotalOrder}
use Rattle.std.specs.FinMap.{find, put, is_sorted}
use Rattle.std.specs.FinMap.Entries.{by_order, below_all}
use Rattle.std.specs.List.{slice_get}
use Rattle.std.specs.Option.{option_copied}
use Rattle.sorted_map.specs.Facts.{both_pass, less, find_below_all}
use Rattle.sorted_map.specs.Entries.{first_where, without}
use Rattle.sorted_map.specs.Indexed.{Tells, NoneLower, IsParted, first_not_less, with_slot, without_tied, first_tied}
use Rattle.sorted_map.specs.Mapped.{present, AllPresent, AreEntries, by_key, AnswersAtKey, value_of}
use Rattle.sorted_map.proofs.Places.{index_rises, greater_of_less, less_of_greater, tied_back, all_greater, all_above_tied, all_others, is_not_some, sorted_put, sorted_without}

-- where none is wanting, the list is that of those that are there
pub all_there : {A : Type 0} (items : List (Option A)) → AllPresent items → items ≡ map Some (present items)
all_there [] h = refl
all_there (None ∷ rest) h = absurd h
all_there (Some x ∷ rest) h = ap (λ l. Some x ∷ l) (all_there rest h)

pub each_there : {A : Type 0} (xs : List A) → AllPresent (map Some xs)
each_there [] = tt
each_there (x ∷ rest) = each_there rest

pub present_some : {A : Type 0} (xs : List A) → present (map Some xs) ≡ xs
present_some [] = refl
present_some (x ∷ rest) = ap (λ l. x ∷ l) (present_some rest)

pub present_both : {A : Type 0} (left right : List (Option A)) → present (left ++ right) ≡ present left ++ present right
present_both [] right = refl
present_both (None ∷ left) right = present_both left right
present_both (Some x ∷ left) right = ap (λ l. x ∷ l) (present_both left right)

pub there_parts : {A : Type 0} (left right : List (Option A)) → AllPresent (left ++ right) → AllPresent left × AllPresent right
there_parts [] right h = (tt, h)
there_parts (None ∷ left) right h = absurd h
there_parts (Some x ∷ left) right h = there_parts left right h

pub there_both : {A : Type 0} (left right : List (Option A)) → AllPresent left → AllPresent right → AllPresent (left ++ right)
there_both [] right h k = k
there_both (None ∷ left) right h k = absurd h
there_both (Some x ∷ left) right h k = there_both left right h k

-- the entry in a node, which has one
abbrev pub in_node : {A : Type 0} → Option A → Option (Option A)
in_node None = None
in_node (Some x) = Some (Some x)

module _ {K V : Type 0} (order : K → Ordering) where
  lower_there : (e : K × V) (rest : List (K × V)) → NoneLower (λ (x : K × V). order x.0) e rest → NoneLower (by_key order) (Some e) (map Some rest)
  lower_there e [] h = tt
  lower_there e (next ∷ rest) h = (h.0, lower_there e rest h.1)

  pub parted_there : (es : List (K × V)) → IsParted (λ (x : K × V). order x.0) es → IsParted (by_key order) (map Some es)
  parted_there [] h = tt
  parted_there (e ∷ rest) h = (lower_there e rest h.0, parted_there rest h.1)

  pub first_there : (es : List (K × V))
      → first_not_less (by_key order) (map Some es) ≡ in_node (first_where (λ key _. not (is_lt (order key))) es)
  first_there [] = refl
  first_there (e ∷ rest) = go (is_lt (order e.0)) (first_there rest)
    where
      go : (b : Bool) → first_not_less (by_key order) (map Some rest) ≡ in_node (first_where (λ key _. not (is_lt (order key))) rest)
          → cond b (first_not_less (by_key order) (map Some rest)) (Some (Some e))
          ≡ in_node (cond (not b) (Some e) (first_where (λ key _. not (is_lt (order key))) rest))
      go true h = h
      go false h = refl

-- an answer at an entry is that of the order at its key
pub told_there : {K V : Type 0} (gives : K → Ordering → Type 0) (order : K → Ordering) → Tells gives order
    → (entry other : Option (K × V)) (answer : Ordering) → other ≡ entry → AnswersAtKey gives other answer → answer ≡ by_key order entry
told_there {K = K} {V = V} gives order tells entry other answer is h = go other answer h ∙ ap (by_key order) is
  where
    go : (e : Option (K × V)) (a : Ordering) → AnswersAtKey gives e a → a ≡ by_key order e
    go None a k = k
    go (Some e) a k = tells e.0 a k

-- the entry that was found
abbrev pub out_of : {A : Type 0} → Option (Option A) → Option A
out_of None = None
out_of (Some entry) = entry

out_in : {A : Type 0} (entry : Option A) → out_of (in_node entry) ≡ entry
out_in None = refl
out_in (Some x) = refl

pub found_there : {K V : Type 0} (order : K → Ordering) (items : List (Option (K × V))) (found : Option (Option (K × V))) → AllPresent items
    → (IsParted (by_key order) items → found ≡ first_not_less (by_key order) items)
    → IsParted (λ (x : K × V). order x.0) (present items) → out_of found ≡ first_where (λ key _. not (is_lt (order key))) (present items)
found_there order items found all is parted =
    let there = all_there items all in
    let es = present items in
    ap out_of (is (subst (IsParted (by_key order)) (sym there) (parted_there order es parted)))
    ∙ ap (λ l. out_of (first_not_less (by_key order) l)) there ∙ ap out_of (first_there order es)
    ∙ out_in (first_where (λ key _. not (is_lt (order key))) es)

-- where the order rises with the keys, it parts the entries
module _ {K V : Type 0} {cmp : K → K → Ordering} (order : K → Ordering)
    (rises : (x y : K) → cmp x y ≡ Less → ordering_index (order x) ≤ ordering_index (order y)) where
  lower_rising : (e : K × V) (rest : List (K × V)) → T (below_all cmp e.0 rest) → NoneLower (λ (x : K × V). order x.0) e rest
  lower_rising e [] h = tt
  lower_rising e (next ∷ rest) h = let t = both_pass _ _ h in (rises e.0 next.0 (less _ t.0), lower_rising e rest t.1)

  pub rising_parted : (es : List (K × V)) → T (is_sorted cmp es) → IsParted (λ (x : K × V). order x.0) es
  rising_parted [] h = tt
  rising_parted (e ∷ rest) h = let t = both_pass _ _ h in (lower_rising e rest t.0, rising_parted rest t.1)

-- each of them ties
pub all_tied : {A : Type 0} (es : List A) → IsParted (λ _. Equal) es
all_tied [] = tt
all_tied {A = A} (e ∷ rest) = (go rest, all_tied rest)
  where
    go : (l : List A) → NoneLower (λ _. Equal) e l
    go [] = tt
    go (x ∷ l) = (omega arith, go l)

pub first_of_all : {K V : Type 0} (es : List (K × V)) → first_where (λ _ _. true) es ≡ slice_get es 0
first_of_all [] = refl
first_of_all (e ∷ rest) = refl

-- what was read and isn't there
pub not_some : {A : Type 0} (o : Option (Bor A)) → is_some o ≡ false → option_copied o ≡ None
not_some None h = refl
not_some (Some x) h = cc

-- how a key stands to another one, and to the point right behind that
abbrev pub to : {K : Type 0} → (K → K → Ordering) → K → K → Ordering
to cmp key held = cmp held key

abbrev pub behind : {K : Type 0} → (K → K → Ordering) → K → K → Ordering
behind cmp key held = cond (is_lt (cmp key held)) Equal Less

module _ {K : Type 0} {cmp : K → K → Ordering} (total : IsTotalOrder cmp) (key : K) where
  behind_rises : (x y : K) → cmp x y ≡ Less → ordering_index (behind cmp key x) ≤ ordering_index (behind cmp key y)
  behind_rises x y l = go (cmp key x) refl
    where
      least : (o : Ordering) → 0 ≤ ordering_index o
      least o = omega arith

      go : (o : Ordering) → cmp key x ≡ o → ordering_index (cond (is_lt o) Equal Less) ≤ ordering_index (behind cmp key y)
      go Less h = let k : cmp key y ≡ Less = total.trans key x y h l in rw k (omega arith)
      go Equal h = least (behind cmp key y)
      go Greater h = least (behind cmp key y)

module _ {K V : Type 0} {cmp : K → K → Ordering} (total : IsTotalOrder cmp) (key : K) where
  pub sorted_parted : (es : List (K × V)) → T (is_sorted cmp es) → IsParted (λ (x : K × V). to cmp key x.0) es
  sorted_parted es s = rising_parted (to cmp key) (λ x y l. index_rises total x y key l) es s

  pub behind_parted : (es : List (K × V)) → T (is_sorted cmp es) → IsParted (λ (x : K × V). behind cmp key x.0) es
  behind_parted es s = rising_parted (behind cmp key) (behind_rises total key) es s

  pub first_behind : (es : List (K × V))
      → first_where (λ held _. not (is_lt (behind cmp key held))) es ≡ first_where (λ held _. is_lt (cmp key held)) es
  first_behind [] = refl
  first_behind (e ∷ rest) = go (is_lt (cmp key e.0)) (first_behind rest)
    where
      go : (b : Bool) → first_where (λ held _. not (is_lt (behind cmp key held))) rest ≡ first_where (λ held _. is_lt (cmp key held)) rest
          → cond (not (is_lt (cond b Equal Less))) (Some e) (first_where (λ held _. not (is_lt (behind cmp key held))) rest)
          ≡ cond b (Some e) (first_where (λ held _. is_lt (cmp key held)) rest)
      go true h = refl
      go false h = h

  -- what is found of the key at the first one that isn't less
  abbrev pub tied_value : Option (K × V) → Option V
  tied_value None = None
  tied_value (Some e) = cond (is_eq (cmp e.0 key)) (Some e.1) None

  pub find_by_first : (es : List (K × V)) → T (is_sorted cmp es)
      → tied_value (first_where (λ held _. not (is_lt (to cmp key held))) es) ≡ find cmp key es
  find_by_first [] s = refl
  find_by_first (e ∷ rest) s = go (cmp e.0 key) refl (find_by_first rest (both_pass _ _ s).1)
    where
      later : Option (K × V)
      later = first_where (λ held _. not (is_lt (to cmp key held))) rest

      go : (o : Ordering) → cmp e.0 key ≡ o → tied_value later ≡ find cmp key rest
          → tied_value (cond (not (is_lt (cmp e.0 key))) (Some e) later) ≡ cond (is_eq (cmp key e.0)) (Some e.1) (find cmp key rest)
      go Less h k =
          ap (λ o. tied_value (cond (not (is_lt o)) (Some e) later)) h ∙ k
          ∙ sym (ap (λ o. cond (is_eq o) (Some e.1) (find cmp key rest)) (greater_of_less total e.0 key h))
      go Equal h k =
          ap (λ o. tied_value (cond (not (is_lt o)) (Some e) later)) h ∙ ap (λ o. cond (is_eq o) (Some e.1) None) h
          ∙ sym (ap (λ o. cond (is_eq o) (Some e.1) (find cmp key rest)) (tied_back total e.0 key h))
      go Greater h k =
          let l = less_of_greater total e.0 key h in
          ap (λ o. tied_value (cond (not (is_lt o)) (Some e) later)) h ∙ ap (λ o. cond (is_eq o) (Some e.1) None) h
          ∙ sym (ap (λ o. cond (is_eq o) (Some e.1) (find cmp key rest)) l
          ∙ find_below_all cmp key rest (all_greater total key e.0 rest l (both_pass _ _ s).0))

  -- a key that isn't there comes in
  pub put_there : (value : V) (es : List (K × V)) → find cmp key es ≡ None
      → with_slot (by_key (to cmp key)) (Some (key, value)) (map Some es) ≡ map Some (put cmp key value es)
  put_there value [] n = refl
  put_there value (e ∷ rest) n = go (cmp e.0 key) refl (put_there value rest)
    where
      more : List (Option (K × V))
      more = with_slot (by_key (to cmp key)) (Some (key, value)) (map Some rest)

      entries : Ordering → List (K × V)
      entries o = by_order o ((key, value) ∷ e ∷ rest) ((e.0, value) ∷ rest) (e ∷ put cmp key value rest)

      go : (o : Ordering) → cmp e.0 key ≡ o → (find cmp key rest ≡ None → more ≡ map Some (put cmp key value rest))
          → cond (is_lt (cmp e.0 key)) (Some e ∷ more) (Some (key, value) ∷ Some e ∷ map Some rest) ≡ map Some (entries (cmp key e.0))
      go Less h k =
          let g = greater_of_less total e.0 key h in
          ap (λ o. cond (is_lt o) (Some e ∷ more) (Some (key, value) ∷ Some e ∷ map Some rest)) h
          ∙ ap (λ l. Some e ∷ l) (k (sym (ap (λ o. cond (is_eq o) (Some e.1) (find cmp key rest)) g) ∙ n))
          ∙ sym (ap (λ o. map Some (entries o)) g)
      go Equal h k =
          absurd (is_not_some _ n (subst IsSome
          (sym (ap (λ o. cond (is_eq o) (Some e.1) (find cmp key rest)) (tied_back total e.0 key h))) refl))
      go Greater h k =
          ap (λ o. cond (is_lt o) (Some e ∷ more) (Some (key, value) ∷ Some e ∷ map Some rest)) h
          ∙ sym (ap (λ o. map Some (entries o)) (less_of_greater total e.0 key h))

  -- the entry of a key goes
  pub without_there : (es : List (K × V)) → T (is_sorted cmp es)
      → without_tied (by_key (to cmp key)) (map Some es) ≡ map Some (without cmp key es)
  without_there [] s = refl
  without_there (e ∷ rest) s = go (cmp e.0 key) refl (without_there rest (both_pass _ _ s).1)
    where
      more : List (Option (K × V))
      more = without_tied (by_key (to cmp key)) (map Some rest)

      entries : Ordering → List (K × V)
      entries o = cond (not (is_eq o)) (e ∷ without cmp key rest) (without cmp key rest)

      go : (o : Ordering) → cmp e.0 key ≡ o → more ≡ map Some (without cmp key rest)
          → cond (is_eq (cmp e.0 key)) (map Some rest) (Some e ∷ more) ≡ map Some (entries (cmp key e.0))
      go Less h k =
          ap (λ o. cond (is_eq o) (map Some rest) (Some e ∷ more)) h ∙ ap (λ l. Some e ∷ l) k
          ∙ sym (ap (λ o. map Some (entries o)) (greater_of_less total e.0 key h))
      go Equal h k =
          ap (λ o. cond (is_eq o) (map Some rest) (Some e ∷ more)) h
          ∙ sym (ap (λ o. map Some (entries o)) (tied_back total e.0 key h)
          ∙ ap (λ l. map Some l) (all_others total key rest (all_above_tied total key e.0 rest h (both_pass _ _ s).0)))
      go Greater h k =
          ap (λ o. cond (is_eq o) (map Some rest) (Some e ∷ more)) h ∙ ap (λ l. Some e ∷ l) k
          ∙ sym (ap (λ o. map Some (entries o)) (less_of_greater total e.0 key h))

  pub find_by_tied : (es : List (K × V)) → value_of (first_tied (by_key (to cmp key)) (map Some es)) ≡ find cmp key es
  find_by_tied [] = refl
  find_by_tied (e ∷ rest) = go (cmp e.0 key) refl (find_by_tied rest)
    where
      more : Option (Option (K × V))
      more = first_tied (by_key (to cmp key)) (map Some rest)

      go : (o : Ordering) → cmp e.0 key ≡ o → value_of more ≡ find cmp key rest
          → value_of (cond (is_eq (cmp e.0 key)) (Some (Some e)) more) ≡ cond (is_eq (cmp key e.0)) (Some e.1) (find cmp key rest)
      go Less h k =
          ap (λ o. value_of (cond (is_eq o) (Some (Some e)) more)) h ∙ k
          ∙ sym (ap (λ o. cond (is_eq o) (Some e.1) (find cmp key rest)) (greater_of_less total e.0 key h))
      go Equal h k =
          ap (λ o. value_of (cond (is_eq o) (Some (Some e)) more)) h
          ∙ sym (ap (λ o. cond (is_eq o) (Some e.1) (find cmp key rest)) (tied_back total e.0 key h))
      go Greater h k =
          ap (λ o. value_of (cond (is_eq o) (Some (Some e)) more)) h ∙ k
          ∙ sym (ap (λ o. cond (is_eq o) (Some e.1) (find cmp key rest)) (less_of_greater total e.0 key h))

  -- what the tree is after an insertion, and after a removal
  pub inserted_there : (value : V) (items new : List (Option (K × V))) → AreEntries cmp items → find cmp key (present items) ≡ None
      → (IsParted (by_key (to cmp key)) items → new ≡ with_slot (by_key (to cmp key)) (Some (key, value)) items)
      → AreEntries cmp new × (present new ≡ put cmp key value (present items))
  inserted_there value items new are none by =
      let es = present items in
      let there = all_there items are.0 in
      let parted = subst (IsParted (by_key (to cmp key))) (sym there) (parted_there (to cmp key) es (sorted_parted es are.1)) in
      let is =
      by parted ∙ ap (with_slot (by_key (to cmp key)) (Some (key, value))) there ∙ put_there value es none in
      let made = ap present is ∙ present_some (put cmp key value es) in (
        (subst AllPresent (sym is) (each_there (put cmp key value es)), sorted_put total es (present new) key value are.1 (sym made)),
        made,
      )

  pub removed_there : (items new : List (Option (K × V))) (found : Option (Option (K × V))) → AreEntries cmp items
      → (IsParted (by_key (to cmp key)) items
      → (new ≡ without_tied (by_key (to cmp key)) items) × (found ≡ first_tied (by_key (to cmp key)) items))
      → AreEntries cmp new × ((present new ≡ without cmp key (present items)) × (value_of found ≡ find cmp key (present items)))
  removed_there items new found are by =
      let es = present items in
      let there = all_there items are.0 in
      let done = by (subst (IsParted (by_key (to cmp key))) (sym there) (parted_there (to cmp key) es (sorted_parted es are.1))) in
      let is = done.0 ∙ ap (without_tied (by_key (to cmp key))) there ∙ without_there es are.1 in
      let made = ap present is ∙ present_some (without cmp key es) in (
        (subst AllPresent (sym is) (each_there (without cmp key es)), sorted_without total es (present new) key are.1 (sym made)),
        (made, ap value_of (done.1 ∙ ap (first_tied (by_key (to cmp key))) there) ∙ find_by_tied es),
      )
