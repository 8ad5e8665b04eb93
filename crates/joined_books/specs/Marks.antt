-- Things that are to stand at places, each at another.
use Rattle.std.specs.Prelude.{◌≡◌, ◌⊎◌, ℕ, ◌<◌, Bool, false, List, All, Contains, ◌==◌, count_by, length, slice_index_or, if◌then◌else◌}

-- how many are at a place
abbrev pub how_many : {X : Type 0} → (X → ℕ) → ℕ → List X → ℕ
how_many place at xs = count_by (λ x. place x == at) xs

module _ {X : Type 0} (place : X → ℕ) (IsThere : X → Type 0) where
  -- all stand, each at another of so many places, and theirs are marked
  pub record AreMarked (size : ℕ) (marks : List Bool) (xs : List X) : Type 0 where
    pub lens : length marks ≡ size
    pub stand : All IsThere xs
    pub marked : (at : ℕ) → how_many place at xs ≡ (if slice_index_or marks at false then 1 else 0)

  -- one of them at this place doesn't stand, or isn't alone there
  pub record IsStrange (xs : List X) (at : ℕ) : Type 0 where
    pub one : X
    pub there : Contains xs one
    pub place_is : place one ≡ at
    pub strange : (IsThere one → ⊥) ⊎ (1 < how_many place at xs)
