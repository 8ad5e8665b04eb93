-- The spellings of a term: for each kind of term the rows of the External Term Format that stand for it.
-- In a row `b` is the tag and what stands behind it, and a field of several bytes has the highest first.
use Rattle.std.specs.Prelude.{◌≡◌, ℕ, zero, suc, ◌+◌, ◌^◌, ◌<◌, ◌≤◌, ◌⊎◌, ℤ, pos, List, [], ◌∷◌, ◌++◌, length}
use Rattle.std.specs.Int.{w32, cast_signed}
use Rattle.std.specs.Str.{chars}
use Rattle.byteorder.specs.Endian.{big_number}
use Rattle.erl_term.specs.declared.term.Pid.{Pid}
use Rattle.erl_term.specs.declared.term.Reference.{Reference}
use Rattle.erl_term.specs.Data.{Data, int, atom, tuple, list, improper, binary, pid, reference, Items, no_items, item, count, joined}
use Rattle.erl_term.specs.Text.{IsAtomText}
use Rattle.erl_term.specs.Numbers.{AreBytes, low_first, signed}

-- b is the number n, in so many bytes
pub record IsNumber (width n : ℕ) (b : List ℕ) : Type 0 where
  pub len : length b ≡ width
  pub bytes : AreBytes b
  pub says : big_number width b ≡ n

-- SMALL_INTEGER 97: a byte
pub record IsSmallInteger (z : ℤ) (b : List ℕ) : Type 0 where
  pub n : ℕ
  pub field : List ℕ
  pub number : IsNumber 1 n field
  pub value : z ≡ pos n
  pub bytes : b ≡ 97 ∷ field

-- INTEGER 98: four bytes, in two's complement
pub record IsInteger (z : ℤ) (b : List ℕ) : Type 0 where
  pub n : ℕ
  pub field : List ℕ
  pub number : IsNumber 4 n field
  pub value : z ≡ cast_signed w32 n
  pub bytes : b ≡ 98 ∷ field

-- SMALL_BIG 110: the length of the magnitude, a sign (1 for minus), and the magnitude, its lowest byte first
pub record IsSmallBig (z : ℤ) (b : List ℕ) : Type 0 where
  pub sign : ℕ
  pub magnitude : List ℕ
  pub is_sign : sign ≤ 1
  pub short : length magnitude ≤ 16
  pub are_bytes : AreBytes magnitude
  pub in_range : low_first magnitude < 2 ^ 127 + sign
  pub value : z ≡ signed sign (low_first magnitude)
  pub bytes : b ≡ 110 ∷ length magnitude ∷ sign ∷ magnitude

-- SMALL_ATOM_UTF8 119 and ATOM_UTF8 118: the length, in one byte or in two, and the text
pub record IsAtom (tag width : ℕ) (a b : List ℕ) : Type 0 where
  pub len : List ℕ
  pub is_text : IsAtomText a
  pub number : IsNumber width (length a) len
  pub bytes : b ≡ tag ∷ (len ++ a)

-- SMALL_ATOM 115 and ATOM 100: the length, in one byte or in two, and the characters, each a byte of Latin-1
pub record IsLatinAtom (tag width : ℕ) (a b : List ℕ) : Type 0 where
  pub len : List ℕ
  pub is_text : IsAtomText a
  pub is_latin : AreBytes (chars a)
  pub number : IsNumber width (length (chars a)) len
  pub bytes : b ≡ tag ∷ (len ++ chars a)

abbrev pub SpellsAtom : List ℕ → List ℕ → Type 0
SpellsAtom a b = IsAtom 119 1 a b ⊎ (IsAtom 118 2 a b ⊎ (IsLatinAtom 115 1 a b ⊎ IsLatinAtom 100 2 a b))

-- b is the spellings of the terms, one after the other, where Spell says which each has
abbrev pub SpellAll : (Data → List ℕ → Type 0) → Items → List ℕ → Type 0
SpellAll Spell no_items b = b ≡ []
SpellAll Spell (item t ts) b = (x : List ℕ) × (y : List ℕ) × Spell t x × SpellAll Spell ts y × (b ≡ x ++ y)

-- SMALL_TUPLE 104 and LARGE_TUPLE 105: how many elements there are, in one byte or in four, and the elements
pub record IsTuple (Spell : Data → List ℕ → Type 0) (tag width : ℕ) (ts : Items) (b : List ℕ) : Type 0 where
  pub arity : List ℕ
  pub elements : List ℕ
  pub number : IsNumber width (count ts) arity
  pub spelled : SpellAll Spell ts elements
  pub bytes : b ≡ tag ∷ (arity ++ elements)

-- NIL 106: the empty list
abbrev pub IsNil : Items → List ℕ → Type 0
IsNil ts b = (ts ≡ no_items) × (b ≡ 106 ∷ [])

-- the integers that these bytes are
abbrev pub byte_items : List ℕ → Items
byte_items [] = no_items
byte_items (n ∷ ns) = item (int (pos n)) (byte_items ns)

-- STRING 107: the length in two bytes, and so many bytes, the list of these integers
pub record IsString (ts : Items) (b : List ℕ) : Type 0 where
  pub len : List ℕ
  pub letters : List ℕ
  pub are_bytes : AreBytes letters
  pub number : IsNumber 2 (length letters) len
  pub value : ts ≡ byte_items letters
  pub bytes : b ≡ 107 ∷ (len ++ letters)

-- LIST 108: how many elements there are, in four bytes, the elements, and the tail. With no elements it is its tail
pub record IsList (Spell : Data → List ℕ → Type 0) (t : Data) (b : List ℕ) : Type 0 where
  pub items : Items
  pub last : Data
  pub len : List ℕ
  pub elements : List ℕ
  pub tail : List ℕ
  pub number : IsNumber 4 (count items) len
  pub spelled : SpellAll Spell items elements
  pub is_tail : Spell last tail
  pub value : t ≡ joined items last
  pub bytes : b ≡ 108 ∷ (len ++ (elements ++ tail))

-- BINARY 109: the length in four bytes, and the bytes
pub record IsBinary (a b : List ℕ) : Type 0 where
  pub len : List ℕ
  pub are_bytes : AreBytes a
  pub number : IsNumber 4 (length a) len
  pub bytes : b ≡ 109 ∷ (len ++ a)

-- NEW_PID 88: the node, an atom in any spelling, and three numbers
pub record IsPid (p : Pid) (b : List ℕ) : Type 0 where
  pub node : List ℕ
  pub id : List ℕ
  pub serial : List ℕ
  pub creation : List ℕ
  pub is_node : SpellsAtom p.node node
  pub is_id : IsNumber 4 p.id id
  pub is_serial : IsNumber 4 p.serial serial
  pub is_creation : IsNumber 4 p.creation creation
  pub bytes : b ≡ 88 ∷ (node ++ (id ++ (serial ++ creation)))

-- b is the numbers, each in four bytes
abbrev pub AreWords : List ℕ → List ℕ → Type 0
AreWords [] b = b ≡ []
AreWords (w ∷ ws) b = (x : List ℕ) × (y : List ℕ) × IsNumber 4 w x × AreWords ws y × (b ≡ x ++ y)

-- NEWER_REFERENCE 90: how many words there are, 1 to 5, the node, an atom in any spelling, the creation and the words
pub record IsReference (r : Reference) (b : List ℕ) : Type 0 where
  pub len : List ℕ
  pub node : List ℕ
  pub creation : List ℕ
  pub words : List ℕ
  pub some : 1 ≤ length r.words
  pub few : length r.words ≤ 5
  pub number : IsNumber 2 (length r.words) len
  pub is_node : SpellsAtom r.node node
  pub is_creation : IsNumber 4 r.creation creation
  pub are_words : AreWords r.words words
  pub bytes : b ≡ 90 ∷ (len ++ (node ++ (creation ++ words)))

-- the rows that stand for a kind of term alone, where Spell says which spellings the elements have
abbrev pub SpellsBy : (Data → List ℕ → Type 0) → Data → List ℕ → Type 0
SpellsBy Spell (int z) b = IsSmallInteger z b ⊎ (IsInteger z b ⊎ IsSmallBig z b)
SpellsBy Spell (atom a) b = SpellsAtom a b
SpellsBy Spell (tuple ts) b = IsTuple Spell 104 1 ts b ⊎ IsTuple Spell 105 4 ts b
SpellsBy Spell (list ts) b = IsNil ts b ⊎ IsString ts b
SpellsBy Spell (improper ts t) b = ⊥
SpellsBy Spell (binary a) b = IsBinary a b
SpellsBy Spell (pid p) b = IsPid p b
SpellsBy Spell (reference r) b = IsReference r b

-- b stands for t, and has at most so many levels: by a row of its kind, or by LIST, which can stand for any
-- term. A term in which no other stands has one level.
abbrev pub Spells : ℕ → Data → List ℕ → Type 0
Spells zero t b = ⊥
Spells (suc levels) t b = SpellsBy (Spells levels) t b ⊎ IsList (Spells levels) t b

-- the same behind the version byte 131
pub record IsSpelling (levels : ℕ) (t : Data) (b : List ℕ) : Type 0 where
  pub term : List ℕ
  pub spelled : Spells levels t term
  pub bytes : b ≡ 131 ∷ term
