-- Entries in numbered slots, some of which are empty.
use Rattle.std.specs.Prelude.{◌≡◌, ◌≢◌, ◌≤◌, ◌<◌, ◌^◌, ◌&&◌, ◌||◌, ◌==◌, if◌then◌else◌, ℕ, Bool, false, not, Option, None, Some, is_some}
use Rattle.std.specs.Prelude.{List, [], ◌∷◌, length, slice_index_or, count_by, refl}
use Rattle.std.specs.Coded.{Coded, code_by, coded×, coded_ℕ, coded_list, coded_option}
use Rattle.std.specs.FinMap as map
use Rattle.std.specs.declared.cmp.Ordering.TheVariants.{Equal}
use Rattle.erl_term.specs.declared.term.Reference.{Reference}
use Rattle.erl_term.specs.Order.{reference_cmp}
use Rattle.monitor_core.specs.Monitors.{MonitorMap}

abbrev pub Entry : Type 0 → Type 0
Entry M = Reference × M

-- the entry of each slot, if it has one, and the number of entries for which memory is reserved
pub record Slotted (M : Type 0) : Type 0 where
  pub slots : List (Option (Entry M))
  pub room : ℕ

abbrev pub slotted_code : {M : Type 0} → Coded Reference → Coded M → Coded (Slotted M)
slotted_code {M} reference monitor =
    code_by (List (Option (Entry M)) × ℕ) (coded× (coded_list (coded_option (coded× reference monitor))) coded_ℕ)
    (λ k. (k.slots, k.room)) (λ p. record { slots = p.0; room = p.1 }) (λ _. refl)

-- the entry in a slot, if there is one
abbrev pub held_at : {M : Type 0} → List (Option (Entry M)) → ℕ → Option (Entry M)
held_at slots slot = slice_index_or slots slot None

abbrev pub holds : {M : Type 0} → List (Option (Entry M)) → ℕ → Bool
holds slots slot = is_some (held_at slots slot)

-- the same for all slots but one
abbrev pub holds_but : {M : Type 0} → List (Option (Entry M)) → ℕ → ℕ → Bool
holds_but slots but slot = holds slots slot && not (slot == but)

-- one slot gets this entry or none, and the others stay
abbrev pub Becomes : {M : Type 0} → List (Option (Entry M)) → List (Option (Entry M)) → ℕ → Option (Entry M) → Type 0
Becomes old new slot entry = (other : ℕ) → held_at new other ≡ (if other == slot then entry else held_at old other)

-- no two slots hold entries of one reference
abbrev pub IsAlone : {M : Type 0} → List (Option (Entry M)) → Type 0
IsAlone {M} slots = (i j : ℕ) (e f : Entry M) → held_at slots i ≡ Some e → held_at slots j ≡ Some f → reference_cmp e.0 f.0 ≡ Equal → i ≡ j

-- the entries that the slots hold
abbrev pub present : {M : Type 0} → List (Option (Entry M)) → List (Entry M)
present [] = []
present (None ∷ rest) = present rest
present (Some entry ∷ rest) = entry ∷ present rest

abbrev pub map_of : {M : Type 0} → List (Option (Entry M)) → MonitorMap M
map_of slots = map.from_entries (present slots)

-- P holds of each
abbrev pub Each : (ℕ → Type 0) → List ℕ → Type 0
Each P [] = Unit {0}
Each P (first ∷ rest) = P first × Each P rest

-- each stands so to all those behind it
abbrev pub Rises : (ℕ → ℕ → Type 0) → List ℕ → Type 0
Rises R [] = Unit {0}
Rises R (first ∷ rest) = Each (R first) rest × Rises R rest

-- true if the number is one of a list
abbrev pub has : ℕ → List ℕ → Bool
has number [] = false
has number (first ∷ rest) = number == first || has number rest

abbrev pub is_empty : {M : Type 0} → Option (Entry M) → Bool
is_empty entry = not (is_some entry)

abbrev pub IsFree : {M : Type 0} → List (Option (Entry M)) → ℕ → Type 0
IsFree slots slot = (slot < length slots) × (held_at slots slot ≡ None)

-- the empty slots, each once, for which there is capacity; each slot has a number of 32 bits
pub record AreKept {M : Type 0} (slots : List (Option (Entry M))) (free : List ℕ) (capacity : ℕ) : Type 0 where
  pub numbered : length slots ≤ 2 ^ 32
  pub empty : Each (IsFree slots) free
  pub once : Rises (λ i j. i ≢ j) free
  pub all : length free ≡ count_by is_empty slots
  pub room : length slots ≤ capacity

-- no slot holds an entry of this reference
abbrev pub IsFresh : {M : Type 0} → List (Option (Entry M)) → Reference → Type 0
IsFresh {M} slots reference = (slot : ℕ) (entry : Entry M) → held_at slots slot ≡ Some entry → reference_cmp entry.0 reference ≢ Equal

-- an empty slot got the entry
pub record WasPut {M : Type 0} (old new : List (Option (Entry M))) (entry : Entry M) : Type 0 where
  pub slot : ℕ
  pub empty : held_at old slot ≡ None
  pub put : Becomes old new slot (Some entry)
