-- Where bytes stop being the beginning of a spelling, and why.
use Rattle.std.specs.Prelude.{◌≡◌, ℕ, zero, suc, ◌+◌, ◌<◌, ◌≤◌, ◌^◌, ◌⊎◌, Bool, false, ◌==◌, List, [], ◌∷◌, ◌++◌, length}
use Rattle.std.specs.List.{list_any}
use Rattle.readers.specs.Places.{Begins, IsFirstFault, IsInside as IsInsideOf, IsAtFront as IsAtFrontOf}
use Rattle.erl_term.specs.declared.error.TermError.{TermError}
use Rattle.erl_term.specs.declared.error.TermError.TheVariants.{Cut, Malformed, OutOfProfile, TooDeep, TooLong, OutOfMemory}
use Rattle.erl_term.specs.Data.{Data, Items, count}
use Rattle.erl_term.specs.Numbers.{low_first}
use Rattle.erl_term.specs.Spelling.{IsNumber, SpellAll, Spells, IsSpelling}

-- a spelling of at most so many levels begins with these bytes
abbrev pub IsBeginning : ℕ → List ℕ → Type 0
IsBeginning levels front = Begins (IsSpelling levels) front

-- and they are no whole one
abbrev pub IsInside : ℕ → List ℕ → Type 0
IsInside levels front = IsInsideOf (IsSpelling levels) front

-- a spelling of t stands at the front and takes n bytes
abbrev pub IsAtFront : List ℕ → Data → ℕ → Type 0
IsAtFront bytes t n = IsAtFrontOf (IsSpelling 64) bytes t n

-- the byte behind front is the first with which no spelling goes on
abbrev pub FirstFault : List ℕ → List ℕ → ℕ → Type 0
FirstFault bytes front byte = IsFirstFault (IsSpelling 64) bytes front byte

-- the tags of the rows
abbrev pub tags : List ℕ
tags = 97 ∷ 98 ∷ 110 ∷ 119 ∷ 118 ∷ 115 ∷ 100 ∷ 104 ∷ 105 ∷ 106 ∷ 107 ∷ 108 ∷ 109 ∷ 88 ∷ 90 ∷ []

abbrev pub is_tag : ℕ → Bool
is_tag b = list_any (λ tag. b == tag) tags

-- a tuple was begun, some of its elements stand there, not all of them, and then what At says
pub record InTuple (Spell : Data → List ℕ → Type 0) (At : List ℕ → Type 0) (front : List ℕ) : Type 0 where
  pub tag : ℕ
  pub width : ℕ
  pub arity : List ℕ
  pub n : ℕ
  pub before : Items
  pub elements : List ℕ
  pub inner : List ℕ
  pub is_tuple : ((tag ≡ 104) × (width ≡ 1)) ⊎ ((tag ≡ 105) × (width ≡ 4))
  pub number : IsNumber width n arity
  pub spelled : SpellAll Spell before elements
  pub left : count before < n
  pub at : At inner
  pub parts : front ≡ tag ∷ (arity ++ (elements ++ inner))

-- a list was begun, some of its elements stand there, and then, in an element or in the tail behind all of them, what At says
pub record InList (Spell : Data → List ℕ → Type 0) (At : List ℕ → Type 0) (front : List ℕ) : Type 0 where
  pub len : List ℕ
  pub n : ℕ
  pub before : Items
  pub elements : List ℕ
  pub inner : List ℕ
  pub number : IsNumber 4 n len
  pub spelled : SpellAll Spell before elements
  pub left : count before ≤ n
  pub at : At inner
  pub parts : front ≡ 108 ∷ (len ++ (elements ++ inner))

-- At stands at the end of the front, within some tuples and lists, of so many levels at most
abbrev pub Nested : ℕ → (List ℕ → Type 0) → List ℕ → Type 0
Nested zero At front = ⊥
Nested (suc below) At front = At front ⊎ (InTuple (Spells below) (Nested below At) front ⊎ InList (Spells below) (Nested below At) front)

-- a SMALL_BIG was begun, and this byte ends a magnitude that is out of range
pub record IsLargeBig (byte : ℕ) (front : List ℕ) : Type 0 where
  pub sign : ℕ
  pub digits : List ℕ
  pub is_sign : sign ≤ 1
  pub short : length digits < 16
  pub large : 2 ^ 127 + sign ≤ low_first (digits ++ byte ∷ [])
  pub parts : front ≡ 110 ∷ suc (length digits) ∷ sign ∷ digits

-- a SMALL_BIG was begun, and this byte says a length above 16, or a magnitude that is out of range
abbrev pub IsBadBig : ℕ → List ℕ → Type 0
IsBadBig byte front = ((front ≡ 110 ∷ []) × (16 < byte)) ⊎ IsLargeBig byte front

-- the same behind the version byte 131
pub record AtPlace (At : List ℕ → Type 0) (front : List ℕ) : Type 0 where
  pub inner : List ℕ
  pub nested : Nested 64 At inner
  pub parts : front ≡ 131 ∷ inner

-- a term must come next, and the byte is no tag
abbrev pub IsUnknownTag : List ℕ → ℕ → Type 0
IsUnknownTag front byte = AtPlace (λ inner. inner ≡ []) front × (is_tag byte ≡ false)

-- only the number of levels forbids the byte
abbrev pub IsTooDeep : List ℕ → ℕ → Type 0
IsTooDeep front byte = (levels : ℕ) × IsBeginning levels (front ++ byte ∷ [])

abbrev pub IsOutOfProfile : List ℕ → ℕ → ℕ → Type 0
IsOutOfProfile front byte tag = ((tag ≡ byte) × IsUnknownTag front byte) ⊎ ((tag ≡ 110) × AtPlace (IsBadBig byte) front)

-- of a byte that may not stand after front: why
abbrev pub IsKind : List ℕ → ℕ → TermError → Type 0
IsKind front byte TooDeep = IsTooDeep front byte
IsKind front byte (OutOfProfile tag) = IsOutOfProfile front byte tag
-- everywhere else
IsKind front byte Malformed = (IsTooDeep front byte → ⊥) × ((tag : ℕ) → IsOutOfProfile front byte tag → ⊥)
IsKind front byte Cut = ⊥
IsKind front byte TooLong = ⊥
IsKind front byte OutOfMemory = ⊥

-- the first fault is of this kind
pub record HasFault (bytes : List ℕ) (kind : TermError) : Type 0 where
  pub front : List ℕ
  pub byte : ℕ
  pub first : FirstFault bytes front byte
  pub why : IsKind front byte kind
