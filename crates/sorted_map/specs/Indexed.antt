-- Items in an order that each call is told, by how an item stands to the point that is sought.
use Rattle.std.specs.Prelude.{◌≡◌, ℕ, ◌<◌, ◌≤◌, ◌^◌, Option, None, Some, List, [], ◌∷◌, if◌then◌else◌, refl}
use Rattle.std.specs.Coded.{Coded, code_by, coded×, coded_list, coded_ℕ}
use Rattle.std.specs.declared.cmp.Ordering.{Ordering}
use Rattle.std.specs.Ordering.{is_lt, is_eq, ordering_index}

-- the slots in their order, and the number of slots for which memory is reserved
pub record Indexed : Type 0 where
  pub slots : List ℕ
  pub room : ℕ

abbrev pub indexed_code : Coded Indexed
indexed_code =
    code_by (List ℕ × ℕ) (coded× (coded_list coded_ℕ) coded_ℕ) (λ m. (m.slots, m.room))
    (λ p. record { slots = p.0; room = p.1 }) (λ _. refl)

-- each answer at a slot, which is a u32, is that of the order
abbrev pub Answers : (ℕ → Ordering → Type 0) → (ℕ → Ordering) → Type 0
Answers gives order = (slot : ℕ) (answer : Ordering) → slot < 2 ^ 32 → gives slot answer → answer ≡ order slot

-- each answer at an item is that of the order
abbrev pub Tells : {A : Type 0} → (A → Ordering → Type 0) → (A → Ordering) → Type 0
Tells {A} gives order = (item : A) (answer : Ordering) → gives item answer → answer ≡ order item

module _ {A : Type 0} (order : A → Ordering) where
  -- none of the items stands lower than this one
  abbrev pub NoneLower : A → List A → Type 0
  NoneLower item [] = Unit {0}
  NoneLower item (first ∷ rest) = (ordering_index (order item) ≤ ordering_index (order first)) × NoneLower item rest

  -- first those that are less, then those that tie, then those that are greater
  abbrev pub IsParted : List A → Type 0
  IsParted [] = Unit {0}
  IsParted (item ∷ rest) = NoneLower item rest × IsParted rest

  -- the first item that isn't less
  abbrev pub first_not_less : List A → Option A
  first_not_less [] = None
  first_not_less (item ∷ rest) = if is_lt (order item) then first_not_less rest else Some item

  -- the item comes before the first that isn't less
  abbrev pub with_slot : A → List A → List A
  with_slot item [] = item ∷ []
  with_slot item (first ∷ rest) = if is_lt (order first) then first ∷ with_slot item rest else item ∷ first ∷ rest

  -- the first item that ties goes
  abbrev pub without_tied : List A → List A
  without_tied [] = []
  without_tied (first ∷ rest) = if is_eq (order first) then rest else first ∷ without_tied rest

  -- the first item that ties
  abbrev pub first_tied : List A → Option A
  first_tied [] = None
  first_tied (first ∷ rest) = if is_eq (order first) then Some first else first_tied rest
