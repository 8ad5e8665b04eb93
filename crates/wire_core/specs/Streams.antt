-- What went over the two wires of a port is what it has put and taken.
use Rattle.std.specs.Prelude.{◌≡◌, ℕ, ◌+◌, ◌^◌, ◌<◌, ◌≤◌, Bool, false, true, List, [], ◌∷◌, ◌++◌, length, take}
use Rattle.wire_core.specs.Ports.{PortSeen, next_piece}
use Rattle.wire_core.specs.Cuts.{AreCut, marked, marks_of, unmarked}
use Rattle.wire_core.specs.Pieces.{PieceSeen}
use Rattle.wire_core.specs.Spellings.{SpellsItem}
use Rattle.wire_core.specs.declared.parcel.Parcel.{Parcel}

-- the bytes of parcels, each under the stamp of its parcel
abbrev pub marks_of_parcels : List Parcel → List (ℕ × ℕ)
marks_of_parcels [] = []
marks_of_parcels (parcel ∷ rest) = marked parcel.stamp parcel.bytes ++ marks_of_parcels rest

abbrev pub AllSpellItems : List Parcel → Type 0
AllSpellItems [] = Unit {0}
AllSpellItems (parcel ∷ rest) = SpellsItem parcel.bytes × AllSpellItems rest

-- so many bytes of the first that waits
abbrev pub begun_marks : ℕ → List Parcel → List (ℕ × ℕ)
begun_marks begun [] = []
begun_marks begun (first ∷ rest) = marked first.stamp (take begun first.bytes)

-- some of the first that waits are still to be put
abbrev pub IsBegun : ℕ → List Parcel → Type 0
IsBegun begun [] = begun ≡ 0
IsBegun begun (first ∷ rest) = begun < length first.bytes

-- the pieces have the bytes of what was put, and of the next what is begun
pub record PutInPieces (pieces : List PieceSeen) (put outbox : List Parcel) (begun : ℕ) : Type 0 where
  pub items : AllSpellItems put
  pub waiting : AllSpellItems outbox
  pub is_begun : IsBegun begun outbox
  pub marks : marks_of pieces ≡ marks_of_parcels put ++ begun_marks begun outbox

-- the pieces have the bytes of what was taken, and then what was gathered, whatever its stamps
pub record TakenInPieces (pieces : List PieceSeen) (taken : List Parcel) (gathered : List ℕ) : Type 0 where
  pub items : AllSpellItems taken
  pub part : List (ℕ × ℕ)
  pub part_is : unmarked part ≡ gathered
  pub marks : marks_of pieces ≡ marks_of_parcels taken ++ part

-- the next piece of the first that waits, and whether it is its last
pub record IsNext (port : PortSeen) (piece : PieceSeen) (is_last : Bool) : Type 0 where
  pub first : Parcel
  pub rest : List Parcel
  pub outbox : port.outbox ≡ first ∷ rest
  pub piece_is : piece ≡ next_piece port first
  pub last : is_last ≡ true → length first.bytes ≤ port.begun + port.greatest
  pub part : is_last ≡ false → port.begun + port.greatest < length first.bytes
  pub fits : is_last ≡ false → port.begun + port.greatest < 2 ^ 64
  pub cut : AreCut (port.pieces ++ piece ∷ [])
