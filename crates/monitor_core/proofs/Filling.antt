-- An entry comes into an empty slot, or leaves its slot.
use Rattle.std.proofs.Common.{◌≡◌, ◌≢◌, ℕ, zero, suc, ◌+◌, ◌<◌, ◌==◌, Bool, true, false, cond, List, [], ◌∷◌, ◌++◌, length}
use Rattle.std.proofs.Common.{IsSome, count_by, slice_set, Option, None, Some, refl, ap, ◌∙◌, arith, length-append}
use Rattle.std.proofs.lemmas.Bool.{eqb-true, eqb-false}
use Rattle.std.proofs.lemmas.List.{get_or-set_same, get_or-set_other, length-set}
use Rattle.std.proofs.lemmas.List.Sums.{sum_by-set, count_by-le-length}
use Rattle.monitor_core.specs.Slots.{Entry, held_at, Becomes, is_empty, IsFree, AreKept}
use Rattle.monitor_core.proofs.Lists.{each_weaker, each_both, each_append, each_left, each_right, rises_front, before_last, rises_more}

abbrev Held : Type 0 → Type 0
Held M = List (Option (Entry M))

-- ---- one slot is written

pub written : {M : Type 0} (slots : Held M) (slot : ℕ) (entry : Option (Entry M)) → slot < length slots
    → Becomes slots (slice_set slots slot entry) slot entry
written slots slot entry l other = go (other == slot) refl
  where
    go : (b : Bool) → (other == slot) ≡ b → held_at (slice_set slots slot entry) other ≡ cond b entry (held_at slots other)
    go true e = ap (held_at (slice_set slots slot entry)) (eqb-true other slot e) ∙ get_or-set_same slots slot entry None l
    go false e = get_or-set_other slots slot other entry None (eqb-false other slot e)

pub held_within : {M : Type 0} (slots : Held M) (slot : ℕ) (entry : Entry M) → held_at slots slot ≡ Some entry → slot < length slots
held_within [] slot entry h = cc
held_within (x ∷ rest) zero entry h = omega arith
held_within (x ∷ rest) (suc slot) entry h = omega (arith, held_within rest slot entry h)

free_elsewhere : {M : Type 0} (slots : Held M) (slot other : ℕ) (entry : Option (Entry M)) → other ≢ slot → IsFree slots other
    → IsFree (slice_set slots slot entry) other
free_elsewhere slots slot other entry n h =
    (omega (arith, h.0, length-set slots slot entry), get_or-set_other slots slot other entry None n ∙ h.1)

abbrev weight : {M : Type 0} → Option (Entry M) → ℕ
weight entry = cond (is_empty entry) 1 0

empties : {M : Type 0} (slots : Held M) (slot : ℕ) (entry : Option (Entry M)) → slot < length slots
    → count_by is_empty (slice_set slots slot entry) + weight (held_at slots slot) ≡ count_by is_empty slots + weight entry
empties slots slot entry l = sum_by-set weight slots slot entry None l

-- ---- the last of the empty slots is filled

pub last_free : {M : Type 0} (slots : Held M) (free : List ℕ) (slot capacity : ℕ) → AreKept slots (free ++ slot ∷ []) capacity → IsFree slots slot
last_free slots free slot capacity h = (each_right (IsFree slots) free (slot ∷ []) h.empty).0

pub filled : {M : Type 0} (slots : Held M) (free : List ℕ) (slot capacity : ℕ) (entry : Entry M) → AreKept slots (free ++ slot ∷ []) capacity
    → AreKept (slice_set slots slot (Some entry)) free capacity
filled slots free slot capacity entry h =
    let here = last_free slots free slot capacity h in
    let long = length-set slots slot (Some entry) in
    let counts = empties slots slot (Some entry) here.0 in
    let none : weight (held_at slots slot) ≡ 1 = ap weight here.1 in
    let lengths = length-append free (slot ∷ []) in
    record {
      numbered = omega (arith, long, h.numbered);
      empty = each_weaker (λ x. (x ≢ slot) × IsFree slots x) (IsFree (slice_set slots slot (Some entry)))
          (λ x k. free_elsewhere slots slot x (Some entry) k.0 k.1) free
          (each_both (λ x. x ≢ slot) (IsFree slots) free (before_last (λ i j. i ≢ j) free slot h.once)
          (each_left (IsFree slots) free (slot ∷ []) h.empty));
      once = rises_front (λ i j. i ≢ j) free slot h.once;
      all = omega (arith, h.all, counts, none, lengths);
      room = omega (arith, long, h.room);
    }

-- ---- a slot is emptied

other_free : {M : Type 0} (slots : Held M) (slot other : ℕ) (entry : Entry M) → held_at slots slot ≡ Some entry → IsFree slots other → other ≢ slot
other_free slots slot other entry h f e = let same : held_at slots other ≡ held_at slots slot = ap (held_at slots) e in let k = f.1 in cc

pub room_left : {M : Type 0} (slots : Held M) (free : List ℕ) (slot capacity : ℕ) (entry : Entry M) → held_at slots slot ≡ Some entry
    → AreKept slots free capacity → length free < capacity
room_left slots free slot capacity entry e h =
    let l = held_within slots slot entry e in
    let counts = empties slots slot None l in
    let some : weight (held_at slots slot) ≡ 0 = ap weight e in
    let most = count_by-le-length is_empty (slice_set slots slot None) in
    omega (arith, counts, some, most, length-set slots slot None, h.all, h.room)

pub emptied : {M : Type 0} (slots : Held M) (free : List ℕ) (slot capacity : ℕ) (entry : Entry M) → held_at slots slot ≡ Some entry
    → AreKept slots free capacity → AreKept (slice_set slots slot None) (free ++ slot ∷ []) capacity
emptied slots free slot capacity entry e h =
    let l = held_within slots slot entry e in
    let long = length-set slots slot None in
    let counts = empties slots slot None l in
    let some : weight (held_at slots slot) ≡ 0 = ap weight e in
    let lengths = length-append free (slot ∷ []) in
    let apart = each_weaker (IsFree slots) (λ x. x ≢ slot) (λ x. other_free slots slot x entry e) free h.empty in
    record {
      numbered = omega (arith, long, h.numbered);
      empty = each_append (IsFree (slice_set slots slot None)) free (slot ∷ [])
          (each_weaker (λ x. (x ≢ slot) × IsFree slots x) (IsFree (slice_set slots slot None))
          (λ x k. free_elsewhere slots slot x None k.0 k.1) free (each_both (λ x. x ≢ slot) (IsFree slots) free apart h.empty))
          ((omega (arith, long, l), get_or-set_same slots slot None None l), tt);
      once = rises_more (λ i j. i ≢ j) free slot h.once apart;
      all = omega (arith, h.all, counts, some, lengths);
      room = omega (arith, long, h.room);
    }

pub some_entry : {M : Type 0} (entry : Option (Entry M)) → IsSome entry → (e : Entry M) × (entry ≡ Some e)
some_entry None h = cc
some_entry (Some e) h = (e, refl)
