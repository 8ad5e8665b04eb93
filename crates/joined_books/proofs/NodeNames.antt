-- The names of nodes by their places, and parts of books.
use Rattle.std.proofs.Common.{◌≡◌, ◌≢◌, ◌⊎◌, ℕ, zero, suc, ◌<◌, List, [], ◌∷◌, inl, inr, length, map, refl, sym, ap, arith, slice_index_or}
use Rattle.dist_books.specs.Acting.{Nodes, name_at, names_of}
use Rattle.dist_books.specs.Books.{AreDistinct}

pub name_is : (nodes : Nodes) (k : ℕ) → name_at nodes k ≡ slice_index_or (names_of nodes) k []
name_is [] k = refl
name_is (node ∷ nodes) zero = refl
name_is (node ∷ nodes) (suc k) = name_is nodes k

order : (j k : ℕ) → (j < k) ⊎ ((k < j) ⊎ (j ≡ k))
order zero zero = inr (inr refl)
order zero (suc k) = inl (omega arith)
order (suc j) zero = inr (inl (omega arith))
order (suc j) (suc k) = elim (order j k) [
  | inl h ↦ inl (omega arith)
  | inr h ↦ elim h [ inl a ↦ inr (inl (omega arith)) | inr e ↦ inr (inr (ap suc e)) ]
]

-- names of which none stands before
pub distinct : (nodes : Nodes) →
    ((k : ℕ) → k < length nodes → (j : ℕ) → j < k → name_at nodes j ≢ name_at nodes k) → AreDistinct nodes
distinct nodes once j k within also same =
    elim (order j k) [
      | inl h ↦ absurd (once k also j h same)
      | inr h ↦ elim h [ inl a ↦ absurd (once j within k a (sym same)) | inr i ↦ i ]
    ]

-- an element, where there is one
pub some_of : {X : Type 0} (xs : List X) (k : ℕ) → k < length xs → X
some_of [] k h = absurd (omega arith)
some_of (x ∷ xs) k h = x

pub part_mapped : {X A B : Type 0} (g : X → List A) (f : A → B) (xs : List X) (k : ℕ)
    → slice_index_or (map (λ x. map f (g x)) xs) k [] ≡ map f (slice_index_or (map g xs) k [])
part_mapped g f [] k = refl
part_mapped g f (x ∷ xs) zero = refl
part_mapped g f (x ∷ xs) (suc k) = part_mapped g f xs k
