-- Each front of bytes that begin an item begins it too, so a fault has one place.
use Rattle.std.proofs.Common.{◌≡◌, ◌≤◌, ◌<◌, ℕ, zero, suc, List, [], ◌∷◌, ◌++◌, take, drop, refl, sym, ap, subst, ◌∙◌, append_assoc, arith, inl, inr}
use Rattle.std.proofs.lemmas.Bool.{cases_lt}
use Rattle.std.proofs.lemmas.List.{append-nil, length-append, take-append-drop, take-take}
use Rattle.readers.specs.Places.{Begins}
use Rattle.erl_term.specs.Data.{Data}
use Rattle.erl_term.specs.Spelling.{IsSpelling}
use Rattle.fault_places.specs.Places.{Goes, IsPlace}
use Rattle.fault_places.specs.declared.places.Reader.{Reader}
use Rattle.fault_places.specs.declared.places.Reader.TheVariants.{Term, Frame, Message}

-- no spelling begins another
abbrev pub OneSpelling : Type 0
OneSpelling = (t u : Data) (a b x y : List ℕ) → IsSpelling 64 t a → IsSpelling 64 u b → a ++ x ≡ b ++ y → (t ≡ u) × (a ≡ b)

begins_front : {A : Type 0} (S : A → List ℕ → Type 0) (front rest : List ℕ) → Begins S (front ++ rest) → Begins S front
begins_front S front rest b = record { value = b.value; more = rest ++ b.more; is_text = subst (S b.value) (append_assoc front rest b.more) b.is_text }

take_front : (n : ℕ) (a b : List ℕ) → (x : List ℕ) × (take n (a ++ b) ≡ take n a ++ x)
take_front zero a b = ([], refl)
take_front (suc n) [] b = (take (suc n) b, refl)
take_front (suc n) (c ∷ a) b = let t = take_front n a b in (t.0, ap (λ w. c ∷ w) t.1)

drop_front : (n : ℕ) (a b : List ℕ) → (x : List ℕ) × (drop n (a ++ b) ≡ drop n a ++ x)
drop_front zero a b = (b, refl)
drop_front (suc n) [] b = (drop (suc n) b, refl)
drop_front (suc n) (c ∷ a) b = drop_front n a b

in_taken : {A : Type 0} (S : A → List ℕ → Type 0) (n : ℕ) (front rest : List ℕ) → Begins S (take n (front ++ rest)) → Begins S (take n front)
in_taken S n front rest b = let t = take_front n front rest in begins_front S (take n front) t.0 (subst (Begins S) t.1 b)

in_dropped : {A : Type 0} (S : A → List ℕ → Type 0) (n : ℕ) (front rest : List ℕ) → Begins S (drop n (front ++ rest)) → Begins S (drop n front)
in_dropped S n front rest b = let t = drop_front n front rest in begins_front S (drop n front) t.0 (subst (Begins S) t.1 b)

no_front : (a b : List ℕ) → a ≡ a ++ b → b ≡ []
no_front [] b e = sym e
no_front (x ∷ a) b e = no_front a b (let k : a ≡ a ++ b = cc in k)

nil_front : (a b : List ℕ) → a ++ b ≡ [] → a ≡ []
nil_front [] b e = refl
nil_front (x ∷ a) b e = absurd cc

goes_front : OneSpelling → (reader : Reader) (front rest : List ℕ) → Goes reader (front ++ rest) → Goes reader front
goes_front one Term front rest g = (
  record {
    begins = begins_front (IsSpelling 64) front rest g.0.begins;
    open_end = λ t s.
        let b = g.0.begins in
        let whole = one t b.value front ((front ++ rest) ++ b.more) (rest ++ b.more) [] s b.is_text
        (sym (append_assoc front rest b.more) ∙ sym (append-nil ((front ++ rest) ++ b.more))) in
        let none : rest ++ b.more ≡ [] = no_front front (rest ++ b.more) (whole.1 ∙ append_assoc front rest b.more) in
        let gone : rest ≡ [] = nil_front rest b.more none in
        g.0.open_end t (subst (IsSpelling 64 t) (sym (append-nil front) ∙ ap (λ w. front ++ w) (sym gone)) s);
  },
  omega (arith, g.1, length-append front rest),
)
goes_front one Frame front rest g = (in_taken _ 4 front rest g.0, in_dropped _ 4 front rest g.1)
goes_front one (Message role) front rest g = in_dropped _ 2 front rest g

shorter : (n m : ℕ) (bytes : List ℕ) → n ≤ m → (rest : List ℕ) × (take m bytes ≡ take n bytes ++ rest)
shorter n m bytes less = (drop n (take m bytes), sym (take-append-drop n (take m bytes)) ∙ ap (λ w. w ++ drop n (take m bytes)) (take-take n m bytes less))

not_before : OneSpelling → (reader : Reader) (bytes : List ℕ) (n m : ℕ) → IsPlace reader bytes n → IsPlace reader bytes m → ¬ (n < m)
not_before one reader bytes n m p q less =
    let s = shorter (suc n) m bytes less in
    p.stops (omega (arith, less, q.inside)) (goes_front one reader (take (suc n) bytes) s.0 (subst (Goes reader) s.1 (q.goes (omega (arith, less)))))

pub one_place_of : OneSpelling → (reader : Reader) (bytes : List ℕ) (n m : ℕ) → IsPlace reader bytes n → IsPlace reader bytes m → n ≡ m
one_place_of one reader bytes n m p q =
    elim (cases_lt n m) [
      | inl less ↦ absurd (not_before one reader bytes n m p q less)
      | inr more ↦
          elim (cases_lt m n) [
            | inl less ↦ absurd (not_before one reader bytes m n q p less)
            | inr same ↦ omega (arith, more, same)
          ]
    ]
