-- Parcels that say what others begin with carry the items that those begin with.
use Rattle.std.proofs.Common.{◌≡◌, ℕ, suc, ◌<◌, List, [], ◌∷◌, ◌++◌, length, refl, sym, ap, ap₂, ◌∙◌, arith, slice_get}
use Rattle.std.proofs.lemmas.Option.{same_Some}
use Rattle.std.specs.List.{AllZip}
use Rattle.std.specs.Option.{option_map}
use Rattle.dist_books.specs.Books.{Stamped}
use Rattle.dist_model.specs.Items.{Item}
use Rattle.node_frames.specs.Frames.{IsSpelled, bytes_of}
use Rattle.wire_core.specs.Standing.{Carries, CarryAll}
use Rattle.wire_core.specs.declared.parcel.Parcel.{Parcel}

abbrev pub BeginsSaid : {P W : Type 0} → (P → W) → (taken put : List P) → Type 0
BeginsSaid said taken put = (place : ℕ) → place < length taken
    → option_map said (slice_get put place) ≡ option_map said (slice_get taken place)

pub items_begin : {P S W : Type 0} (said : P → W) (R : P → S → Type 0) → ((p q : P) (x y : S) → R p x → R q y → said p ≡ said q → x ≡ y)
    → (taken put : List P) (ys xs : List S) → AllZip R taken ys → AllZip R put xs → BeginsSaid said taken put
    → (rest : List S) × (xs ≡ ys ++ rest)
items_begin said R one [] put [] xs t p h = (xs, refl)
items_begin said R one [] put (y ∷ ys) xs t p h = absurd t
items_begin said R one (q ∷ taken) put [] xs t p h = absurd t
items_begin said R one (q ∷ taken) [] (y ∷ ys) xs t p h = absurd (let e = h 0 (omega arith) in cc)
items_begin said R one (q ∷ taken) (o ∷ put) (y ∷ ys) [] t p h = absurd p
items_begin said R one (q ∷ taken) (o ∷ put) (y ∷ ys) (x ∷ xs) t p h =
    let same : x ≡ y = one o q x y p.0 t.0 (same_Some (said o) (said q) (h 0 (omega arith))) in
    let rest = items_begin said R one taken put ys xs t.1 p.1 (λ place below. h (suc place) (omega arith)) in
    (rest.0, ap (λ z. z ∷ xs) same ∙ ap (λ l. y ∷ l) rest.1)

pub carried : (parcels : List Parcel) (items : List Stamped) → CarryAll parcels items → AllZip Carries parcels items
carried [] [] h = tt
carried [] (x ∷ xs) h = h
carried (p ∷ ps) [] h = h
carried (p ∷ ps) (x ∷ xs) h = (h.0, carried ps xs h.1)

abbrev pub BytesTell : Type 0
BytesTell = (x y : Item) → IsSpelled x → IsSpelled y → bytes_of x ≡ bytes_of y → x ≡ y

pub carry_one : BytesTell → (p q : Parcel) (x y : Stamped) → Carries p x → Carries q y
    → ◌≡◌ {A = ℕ × List ℕ} (p.stamp, p.bytes) (q.stamp, q.bytes) → x ≡ y
carry_one tell p q x y a b e =
    let stamps : x.0 ≡ y.0 = sym a.stamp ∙ ap (λ (s : ℕ × List ℕ). s.0) e ∙ b.stamp in
    let items : x.1 ≡ y.1 = tell x.1 y.1 a.spelled b.spelled (sym a.bytes ∙ ap (λ (s : ℕ × List ℕ). s.1) e ∙ b.bytes) in
    pair x y stamps items
  where
    pair : (x y : Stamped) → x.0 ≡ y.0 → x.1 ≡ y.1 → x ≡ y
    pair x y p q = ap₂ (λ (n : ℕ) (i : Item). (n, i)) p q
