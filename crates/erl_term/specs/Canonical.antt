-- The canonical spelling of each term: of all its spellings the one that is written.
use Rattle.std.specs.Prelude.{◌≡◌, ℕ, zero, suc, ◌-◌, ◌/◌, ◌%◌, ◌^◌, ◌<◌, ◌≤◌, max, ℤ, pos, negsuc, List, [], ◌∷◌}
use Rattle.std.specs.Prelude.{◌++◌, length, nat_lt, ◌==◌, ◌&&◌, Bool, true, false, if◌then◌else◌, FitsSigned, All}
use Rattle.std.specs.List.{flat_map}
use Rattle.std.specs.Int.{w128}
use Rattle.byteorder.specs.Endian.{big_bytes}
use Rattle.erl_term.specs.declared.term.Pid.{Pid}
use Rattle.erl_term.specs.declared.term.Reference.{Reference}
use Rattle.erl_term.specs.Data.{Data, int, atom, tuple, list, improper, binary, pid, reference, Items, no_items, item, count}
use Rattle.erl_term.specs.Numbers.{AreBytes}
use Rattle.erl_term.specs.Text.{IsAtomText}
use Rattle.erl_term.specs.Limits.{limit}

-- the bytes of a number, the lowest first, with no zeros behind them
abbrev pub digits : ℕ → ℕ → List ℕ
digits zero m = []
digits (suc most) m = if m == 0 then [] else (m % 256) ∷ digits most (m / 256)

unfoldable pub magnitude : ℕ → List ℕ
magnitude m = digits 16 m

abbrev pub canonical_big : ℕ → ℕ → List ℕ
canonical_big sign m = 110 ∷ length (magnitude m) ∷ sign ∷ magnitude m

-- SMALL_INTEGER from 0 to 255, INTEGER from -2 ^ 31 to 2 ^ 31 - 1, and else SMALL_BIG. -1 is negsuc 0.
unfoldable pub canonical_int : ℤ → List ℕ
canonical_int (pos n) = if nat_lt n 256 then 97 ∷ n ∷ [] else (if nat_lt n (2 ^ 31) then 98 ∷ big_bytes 4 n else canonical_big 0 n)
canonical_int (negsuc n) = if nat_lt n (2 ^ 31) then 98 ∷ big_bytes 4 (2 ^ 32 - 1 - n) else canonical_big 1 (suc n)

-- SMALL_ATOM_UTF8 up to 255 bytes, and else ATOM_UTF8
unfoldable pub canonical_atom : List ℕ → List ℕ
canonical_atom a = if nat_lt (length a) 256 then 119 ∷ length a ∷ a else 118 ∷ (big_bytes 2 (length a) ++ a)

-- SMALL_TUPLE up to 255 elements, and else LARGE_TUPLE
unfoldable pub canonical_head : ℕ → List ℕ
canonical_head n = if nat_lt n 256 then 104 ∷ n ∷ [] else 105 ∷ big_bytes 4 n

unfoldable pub canonical_pid : Pid → List ℕ
canonical_pid p = 88 ∷ (canonical_atom p.node ++ (big_bytes 4 p.id ++ (big_bytes 4 p.serial ++ big_bytes 4 p.creation)))

abbrev pub words_text : List ℕ → List ℕ
words_text words = flat_map (big_bytes 4) words

unfoldable pub canonical_reference : Reference → List ℕ
canonical_reference r = 90 ∷ (big_bytes 2 (length r.words) ++ (canonical_atom r.node ++ (big_bytes 4 r.creation ++ words_text r.words)))

unfoldable pub canonical_binary : List ℕ → List ℕ
canonical_binary a = 109 ∷ (big_bytes 4 (length a) ++ a)

-- an integer of a byte
abbrev pub is_byte : Data → Bool
is_byte (int (pos n)) = nat_lt n 256
is_byte t = false

abbrev pub byte_of : Data → ℕ
byte_of (int (pos n)) = n
byte_of t = 0

abbrev pub are_byte_items : Items → Bool
are_byte_items no_items = true
are_byte_items (item t ts) = is_byte t && are_byte_items ts

abbrev pub bytes_of : Items → List ℕ
bytes_of no_items = []
bytes_of (item t ts) = byte_of t ∷ bytes_of ts

-- the items that a STRING can hold
abbrev pub is_string : Items → Bool
is_string ts = are_byte_items ts && nat_lt (count ts) (2 ^ 16)

-- LIST, with the spelling of its elements and of its tail
abbrev pub canonical_cells : ℕ → List ℕ → List ℕ → List ℕ
canonical_cells n elements tail = 108 ∷ (big_bytes 4 n ++ (elements ++ tail))

-- NIL with no items, STRING for up to 65,535 integers of a byte, and else LIST with NIL as its tail
unfoldable pub canonical_list : Items → List ℕ → List ℕ
canonical_list no_items elements = 106 ∷ []
canonical_list (item t ts) elements =
    if is_string (item t ts) then 107
    ∷ (big_bytes 2 (count (item t ts)) ++ bytes_of (item t ts)) else canonical_cells (count (item t ts)) elements (106 ∷ [])

abbrev mutual
  pub canonical_term : Data → List ℕ
  canonical_term (int z) = canonical_int z
  canonical_term (atom a) = canonical_atom a
  canonical_term (tuple ts) = canonical_head (count ts) ++ canonical_items ts
  canonical_term (list ts) = canonical_list ts (canonical_items ts)
  canonical_term (improper ts t) = canonical_cells (count ts) (canonical_items ts) (canonical_term t)
  canonical_term (binary a) = canonical_binary a
  canonical_term (pid p) = canonical_pid p
  canonical_term (reference r) = canonical_reference r

  pub canonical_items : Items → List ℕ
  canonical_items no_items = []
  canonical_items (item t ts) = canonical_term t ++ canonical_items ts

-- with the version byte
abbrev pub canonical : Data → List ℕ
canonical t = 131 ∷ canonical_term t

-- the levels of the spelling
abbrev mutual
  pub levels_of : Data → ℕ
  levels_of (int z) = 1
  levels_of (atom a) = 1
  levels_of (tuple ts) = suc (most_levels ts)
  levels_of (list ts) = if is_string ts then 1 else suc (most_levels ts)
  levels_of (improper ts t) = suc (max (most_levels ts) (levels_of t))
  levels_of (binary a) = 1
  levels_of (pid p) = 1
  levels_of (reference r) = 1

  pub most_levels : Items → ℕ
  most_levels no_items = 0
  most_levels (item t ts) = max (levels_of t) (most_levels ts)

-- NEW_PID: an atom and three words of 32 bits
pub record IsPidInRange (p : Pid) : Type 0 where
  pub node : IsAtomText p.node
  pub id : p.id < 2 ^ 32
  pub serial : p.serial < 2 ^ 32
  pub creation : p.creation < 2 ^ 32

-- NEWER_REFERENCE: an atom, a creation of 32 bits, and 1 to 5 words of 32 bits
pub record IsReferenceInRange (r : Reference) : Type 0 where
  pub node : IsAtomText r.node
  pub creation : r.creation < 2 ^ 32
  pub some : 1 ≤ length r.words
  pub few : length r.words ≤ 5
  pub words : All (λ w. w < 2 ^ 32) r.words

-- what can be the tail of a list, behind its items: a list there goes on with its items
abbrev pub is_list : Data → Bool
is_list (list ts) = true
is_list (improper ts t) = true
is_list t = false

-- what is a value of the profile: -2 ^ 127 to 2 ^ 127 - 1, texts of at most 255 characters, fewer than 2 ^ 32
-- elements and bytes, and a tail only behind some items and of no list
abbrev mutual
  pub IsInRange : Data → Type 0
  IsInRange (int z) = FitsSigned w128 z
  IsInRange (atom a) = IsAtomText a
  IsInRange (tuple ts) = (count ts < 2 ^ 32) × AreInRange ts
  IsInRange (list ts) = (count ts < 2 ^ 32) × AreInRange ts
  IsInRange (improper ts t) = (0 < count ts) × (count ts < 2 ^ 32) × (is_list t ≡ false) × AreInRange ts × IsInRange t
  IsInRange (binary a) = AreBytes a × (length a < 2 ^ 32)
  IsInRange (pid p) = IsPidInRange p
  IsInRange (reference r) = IsReferenceInRange r

  pub AreInRange : Items → Type 0
  AreInRange no_items = Unit {0}
  AreInRange (item t ts) = IsInRange t × AreInRange ts

-- a value that only its length forbids to write
abbrev pub IsTooLongToWrite : Data → Type 0
IsTooLongToWrite t = IsInRange t × (levels_of t ≤ 64) × (limit < length (canonical t))

-- a value whose spelling has at most so many levels and bytes
abbrev pub IsWithin : ℕ → ℕ → Data → Type 0
IsWithin levels most t = IsInRange t × (levels_of t ≤ levels) × (length (canonical t) ≤ most)

-- a value that `encode` writes
abbrev pub IsWritable : Data → Type 0
IsWritable t = IsWithin 64 limit t
