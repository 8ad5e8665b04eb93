-- Beginnings of two texts, one after the other.
use Rattle.std.proofs.Common.{◌≡◌, ℕ, List, [], ◌∷◌, ◌++◌, refl, sym, ap, subst, ◌∙◌, append_assoc, ◌⊎◌, inl, inr}
use Rattle.control_beginnings.specs.Parts.{Starts, Headed, Both}

-- of two fronts of the same bytes one begins the other
pub split : (a more x y : List ℕ) → a ++ more ≡ x ++ y → ((r : List ℕ) × (a ≡ x ++ r)) ⊎ ((t : List ℕ) × (a ++ t ≡ x))
split a more [] y e = inl (a, refl)
split [] more (c ∷ x) y e = inr (c ∷ x, refl)
split (d ∷ a) more (c ∷ x) y e =
    let head : d ≡ c = cc in
    let tail : a ++ more ≡ x ++ y = cc in
    elim (split a more x y tail) as (λ _. ((r : List ℕ) × (d ∷ a ≡ (c ∷ x) ++ r)) ⊎ ((t : List ℕ) × ((d ∷ a) ++ t ≡ c ∷ x))) [
      | inl r ↦ inl (r.0, ap (λ (k : ℕ). k ∷ a) head ∙ ap (λ (w : List ℕ). c ∷ w) r.1)
      | inr t ↦ inr (t.0, ap (λ (k : ℕ). k ∷ (a ++ t.0)) head ∙ ap (λ (w : List ℕ). c ∷ w) t.1)
    ]

-- no text begins another
abbrev pub Free : (List ℕ → Type 0) → Type 0
Free S = (a b x y : List ℕ) → S a → S b → a ++ x ≡ b ++ y → x ≡ y

module _ (S T : List ℕ → Type 0) (bytes : List ℕ) where
  -- where no text of S stands at the front
  pub open_to : ((b : List ℕ) × T b) → Starts S bytes → Starts (Both S T) bytes
  open_to some s = (s.0 ++ some.0, (bytes ++ s.0, some.0, s.1, some.1, sym (append_assoc bytes s.0 some.0)))

  pub open_from : ((text rest : List ℕ) → S text → bytes ≡ text ++ rest → ⊥) → Starts (Both S T) bytes → Starts S bytes
  open_from none s =
      elim (split bytes s.0 s.1.0 s.1.1 s.1.4) as (λ _. Starts S bytes) [
        | inl r ↦ absurd (none s.1.0 r.0 s.1.2 r.1)
        | inr t ↦ (t.0, subst S (sym t.1) s.1.2)
      ]

  -- where one does
  pub behind_to : (rest text : List ℕ) → S text → bytes ≡ text ++ rest → Starts T rest → Starts (Both S T) bytes
  behind_to rest text s e t =
      (t.0, (text, rest ++ t.0, s, t.1, ap (λ (w : List ℕ). w ++ t.0) e ∙ append_assoc text rest t.0))

  pub behind_from : Free S → (rest text : List ℕ) → S text → bytes ≡ text ++ rest → Starts (Both S T) bytes → Starts T rest
  behind_from free rest text s e b =
      let same : text ++ (rest ++ b.0) ≡ b.1.0 ++ b.1.1 =
      sym (append_assoc text rest b.0) ∙ ap (λ (w : List ℕ). w ++ b.0) (sym e) ∙ b.1.4 in
      (b.0, subst T (sym (free text b.1.0 (rest ++ b.0) b.1.1 s b.1.2 same)) b.1.3)

-- nothing begins behind a whole text
pub whole : (S : List ℕ → Type 0) → Free S → (bytes text rest : List ℕ) → S text → bytes ≡ text ++ rest → Starts S bytes → rest ≡ []
whole S free bytes text rest s e b =
    let same : text ++ (rest ++ b.0) ≡ (bytes ++ b.0) ++ [] =
    sym (append_assoc text rest b.0) ∙ ap (λ (w : List ℕ). w ++ b.0) (sym e) ∙ sym (nil_behind (bytes ++ b.0)) in
    none rest b.0 (free text (bytes ++ b.0) (rest ++ b.0) [] s b.1 same)
  where
    nil_behind : (xs : List ℕ) → xs ++ [] ≡ xs
    nil_behind [] = refl
    nil_behind (x ∷ xs) = ap (λ (w : List ℕ). x ∷ w) (nil_behind xs)

    none : (xs ys : List ℕ) → xs ++ ys ≡ [] → xs ≡ []
    none [] ys e = refl
    none (x ∷ xs) ys e = absurd cc

pub whole_starts : (S : List ℕ → Type 0) (bytes text rest : List ℕ) → S text → bytes ≡ text ++ rest → rest ≡ [] → Starts S bytes
whole_starts S bytes text rest s e n =
    ([], subst S (sym (ap (λ (w : List ℕ). w ++ []) e ∙ append_assoc text rest [] ∙ ap (λ (w : List ℕ). text ++ (w ++ [])) n ∙ nil text)) s)
  where
    nil : (xs : List ℕ) → xs ++ ([] ++ []) ≡ xs
    nil [] = refl
    nil (x ∷ xs) = ap (λ (w : List ℕ). x ∷ w) (nil xs)

-- ---- a byte in front

module _ (byte : ℕ) (S : List ℕ → Type 0) (bytes : List ℕ) where
  pub headed_to : (rest : List ℕ) → bytes ≡ byte ∷ rest → Starts S rest → Starts (Headed byte S) bytes
  headed_to rest e s = (s.0, (rest ++ s.0, s.1, ap (λ (w : List ℕ). w ++ s.0) e))

  pub headed_from : (rest : List ℕ) → bytes ≡ byte ∷ rest → Starts (Headed byte S) bytes → Starts S rest
  headed_from rest e (more, (y, s, p)) =
      let same : byte ∷ (rest ++ more) ≡ byte ∷ y = ap (λ (w : List ℕ). w ++ more) (sym e) ∙ p in
      let tail : rest ++ more ≡ y = cc in
      (more, subst S (sym tail) s)

  pub headed_by : (other : ℕ) (rest : List ℕ) → bytes ≡ other ∷ rest → Starts (Headed byte S) bytes → other ≡ byte
  headed_by other rest e (more, (y, s, p)) =
      let same : other ∷ (rest ++ more) ≡ byte ∷ y = ap (λ (w : List ℕ). w ++ more) (sym e) ∙ p in cc

  pub headed_none : (some : List ℕ) → S some → bytes ≡ [] → Starts (Headed byte S) bytes
  headed_none some s e = (byte ∷ some, (some, s, ap (λ (w : List ℕ). w ++ byte ∷ some) e))
