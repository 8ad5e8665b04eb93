-- Where bytes are a text of a relation, the beginning of one, or neither.
use Rattle.std.specs.Prelude.{◌≡◌, ◌≤◌, ℕ, List, [], ◌∷◌, ◌++◌, length, take}

-- a text of S begins with the bytes
pub record Begins {A : Type 0} (S : A → List ℕ → Type 0) (bytes : List ℕ) : Type 0 where
  pub value : A
  pub more : List ℕ
  pub is_text : S value (bytes ++ more)

-- a text of S begins with the bytes, and they are no whole one
pub record IsInside {A : Type 0} (S : A → List ℕ → Type 0) (bytes : List ℕ) : Type 0 where
  pub begins : Begins S bytes
  pub open_end : (value : A) → S value bytes → ⊥

-- a text of S that stands for the value is at the front, and takes n bytes
pub record IsAtFront {A : Type 0} (S : A → List ℕ → Type 0) (bytes : List ℕ) (value : A) (n : ℕ) : Type 0 where
  pub within : n ≤ length bytes
  pub is_text : S value (take n bytes)

-- the byte behind front is the first with which no text of S goes on
pub record IsFirstFault {A : Type 0} (S : A → List ℕ → Type 0) (bytes : List ℕ) (front : List ℕ) (byte : ℕ) : Type 0 where
  pub rest : List ℕ
  pub parts : bytes ≡ front ++ byte ∷ rest
  pub inside : IsInside S front
  pub stops : Begins S (front ++ byte ∷ []) → ⊥
