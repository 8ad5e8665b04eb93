-- A finite map as the list of its entries, in the strict order of their keys.
use Rattle.std.specs.Prelude.{◌≡◌, ℕ, zero, suc, Bool, true, not, Option, None, Some, List, [], ◌∷◌, is_some, if◌then◌else◌, refl}
use Rattle.std.specs.Coded.{Coded, code_by, coded×, coded_list, coded_ℕ}
use Rattle.std.specs.declared.cmp.Ordering.{Ordering}
use Rattle.std.specs.declared.cmp.Ordering.TheVariants.{Less, Equal, Greater}
use Rattle.std.specs.Ordering.{eq_by_cmp, is_lt}
use Rattle.std.specs.List.{slice_get}
use Rattle.std.specs.FinMap.{find, put}
use Rattle.std.specs.FinMap.Entries.{where_key}

-- the entries, and how many more keys may come without memory
pub record Held (K V : Type 0) : Type 0 where
  pub entries : List (K × V)
  pub room : ℕ

abbrev pub held_code : {K V : Type 0} → Coded K → Coded V → Coded (Held K V)
held_code {K} {V} k v =
    code_by (List (K × V) × ℕ) (coded× (coded_list (coded× k v)) coded_ℕ) (λ m. (m.entries, m.room))
    (λ p. record { entries = p.0; room = p.1 }) (λ _. refl)

-- the first entry that passes, in the order of the keys
abbrev pub first_where : {K V : Type 0} → (K → V → Bool) → List (K × V) → Option (K × V)
first_where passes [] = None
first_where passes (entry ∷ rest) = if passes entry.0 entry.1 then Some entry else first_where passes rest

-- the entry at a place, if one is given
abbrev pub at_place : {K V : Type 0} → List (K × V) → Option ℕ → Option (K × V)
at_place entries None = None
at_place entries (Some at) = slice_get entries at

-- the key is greater than this one, if one is given
abbrev pub is_behind : {K : Type 0} → (K → K → Ordering) → Option K → K → Bool
is_behind cmp None key = true
is_behind cmp (Some last) key = is_lt (cmp last key)

module _ {K V : Type 0} (cmp : K → K → Ordering) where
  -- the entries but for that of the key
  abbrev pub without : K → List (K × V) → List (K × V)
  without key entries = where_key cmp (λ held. not (eq_by_cmp cmp key held)) entries

  -- the value of a key that is there is this one
  abbrev pub changed : K → V → List (K × V) → List (K × V)
  changed key value entries = if is_some (find cmp key entries) then put cmp key value entries else entries

  -- the key's entry stands at this place, behind those of lesser keys
  abbrev pub IsFoundAt : List (K × V) → K → ℕ → Type 0
  IsFoundAt [] key at = ⊥
  IsFoundAt (first ∷ rest) key zero = cmp first.0 key ≡ Equal
  IsFoundAt (first ∷ rest) key (suc at) = (cmp first.0 key ≡ Less) × IsFoundAt rest key at

  -- the key has no entry, and its own would go to this place
  abbrev pub IsGapAt : List (K × V) → K → ℕ → Type 0
  IsGapAt [] key zero = Unit {0}
  IsGapAt [] key (suc at) = ⊥
  IsGapAt (first ∷ rest) key zero = cmp first.0 key ≡ Greater
  IsGapAt (first ∷ rest) key (suc at) = (cmp first.0 key ≡ Less) × IsGapAt rest key at

  -- the entry of the least key behind this one
  abbrev pub next : Option K → List (K × V) → Option (K × V)
  next behind entries = first_where (λ key _. is_behind cmp behind key) entries
