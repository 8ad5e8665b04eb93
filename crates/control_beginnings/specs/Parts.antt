-- The parts of a signal's text, each as the texts that it has, and the beginnings of such texts.
use Rattle.std.specs.Prelude.{◌≡◌, ◌≢◌, ℕ, zero, suc, ◌-◌, ◌≤◌, ◌<◌, ◌^◌, Bool, true, false, pos, List, [], ◌∷◌, ◌++◌, length, map, slice_index_or}
use Rattle.std.specs.Prelude.{Option, MatchOption, IsTrue, ◌==◌, if◌then◌else◌}
use Rattle.std.specs.Borrow.{Bor}
use Rattle.erl_term.specs.declared.error.TermError.{TermError}
use Rattle.erl_term.specs.declared.error.TermError.TheVariants.{Cut, Malformed, OutOfProfile, TooDeep, TooLong, OutOfMemory}
use Rattle.erl_term.specs.declared.parts.TupleHead.{TupleHead}
use Rattle.erl_term.specs.Data.{Data, int, atom, pid, reference}
use Rattle.erl_term.specs.Numbers.{AreBytes, low_first}
use Rattle.erl_term.specs.Spelling.{IsNumber, IsSmallBig, SpellsBy, Spells, IsSpelling}
use Rattle.erl_term.specs.Parts.{lists, Behind, IsHead, IsTupleHead, IsIntegerText}
use Rattle.erl_control.specs.Control.{IsUnlinkId}
use Rattle.control_beginnings.specs.declared.fronts.Front.{Front}
use Rattle.control_beginnings.specs.declared.fronts.Front.TheVariants as front
use Rattle.control_beginnings.specs.declared.parts.Kind.{Kind}
use Rattle.control_beginnings.specs.declared.parts.Kind.TheVariants.{Pid, Name, Target, Reference}
use Rattle.control_beginnings.specs.declared.table.Row.{Row}
use Rattle.control_beginnings.specs.declared.parts.Part.{Part}
use Rattle.control_beginnings.specs.declared.parts.Part.TheVariants.{Id, Of, Term, Message}

-- a text of S begins with the bytes
abbrev pub Starts : (List ℕ → Type 0) → List ℕ → Type 0
Starts S bytes = (more : List ℕ) × S (bytes ++ more)

-- a text of S, and then one of T
abbrev pub Both : (List ℕ → Type 0) → (List ℕ → Type 0) → List ℕ → Type 0
Both S T b = (x : List ℕ) × (y : List ℕ) × S x × T y × (b ≡ x ++ y)

-- A text of S stands at the front, and the answer is the bytes behind it. It is none only where there is none.
abbrev pub Skips : (List ℕ → Type 0) → List ℕ → Option (Bor (List ℕ)) → Type 0
Skips S bytes answer =
    MatchOption answer ((text rest : List ℕ) → S text → bytes ≡ text ++ rest → ⊥) (λ x. (text : List ℕ) × S text × (bytes ≡ text ++ x.now))

-- ---- lists with no elements

-- where bytes stand to the lists with no elements at their front, in a term of so many levels
abbrev pub IsFront : ℕ → List ℕ → Front → Type 0
IsFront levels bytes front.Inside = (k : ℕ) × (more : List ℕ) × (suc k ≤ levels) × (bytes ++ more ≡ lists k)
IsFront levels bytes (front.Behind text) =
    (k : ℕ) × (suc k ≤ levels) × (bytes ≡ lists k ++ text.now) × ((rest : List ℕ) → text.now ≡ 108 ∷ rest → ⊥)
IsFront levels bytes front.Refused =
    (k c : ℕ) (more rest : List ℕ) → suc k ≤ levels → c ≢ 108 → bytes ++ more ≡ lists k ++ c ∷ rest → ⊥

-- ---- any term

abbrev pub IsAnyTerm : ℕ → List ℕ → Type 0
IsAnyTerm levels b = (t : Data) × Spells levels t b

abbrev pub IsAnySpelling : List ℕ → Type 0
IsAnySpelling b = (t : Data) × IsSpelling 64 t b

-- the error says that the bytes end inside a term
abbrev pub is_open : TermError → Bool
is_open Cut = true
is_open Malformed = false
is_open (OutOfProfile tag) = false
is_open TooDeep = false
is_open TooLong = true
is_open OutOfMemory = false

-- the answer tells if a spelling begins with the bytes, where none stands at their front
abbrev pub IsUnfinished : List ℕ → Bool → Type 0
IsUnfinished bytes answer =
    ((t : Data) (text rest : List ℕ) → IsSpelling 64 t text → bytes ≡ text ++ rest → ⊥)
    → (IsTrue answer → Starts IsAnySpelling bytes) × (Starts IsAnySpelling bytes → IsTrue answer)

-- ---- numbers

abbrev pub IsTagText : ℕ → List ℕ → Type 0
IsTagText tag b = IsIntegerText (pos tag) b

abbrev pub IsBigTag : ℕ → List ℕ → Type 0
IsBigTag tag b = IsSmallBig (pos tag) b

abbrev pub zeros : ℕ → List ℕ
zeros zero = []
zeros (suc n) = 0 ∷ zeros n

-- a number below 256 as a SMALL_BIG of so many digits
abbrev pub big_word : ℕ → ℕ → List ℕ
big_word len tag = 110 ∷ len ∷ 0 ∷ tag ∷ zeros (len - 1)

abbrev pub IsTagAt : ℕ → ℕ → List ℕ → Type 0
IsTagAt levels tag b = Spells levels (int (pos tag)) b

abbrev pub IsByteId : List ℕ → Type 0
IsByteId field = (id : ℕ) × (1 ≤ id) × IsNumber 1 id field

-- in two's complement
abbrev pub IsWordId : List ℕ → Type 0
IsWordId field = (id : ℕ) × (1 ≤ id) × (id < 2 ^ 31) × IsNumber 4 id field

-- a magnitude of so many bytes
pub record IsDigitsId (len : ℕ) (digits : List ℕ) : Type 0 where
  pub len_is : length digits ≡ len
  pub are_bytes : AreBytes digits
  pub some : 1 ≤ low_first digits
  pub fits : low_first digits < 2 ^ 64

-- a byte, and then a text of S
abbrev pub Headed : ℕ → (List ℕ → Type 0) → List ℕ → Type 0
Headed byte S b = (y : List ℕ) × S y × (b ≡ byte ∷ y)

-- no sign, and then the magnitude
abbrev pub IsSizedId : ℕ → List ℕ → Type 0
IsSizedId len b = Headed 0 (IsDigitsId len) b

-- the length, no sign, and the magnitude
abbrev pub IsBigId : List ℕ → Type 0
IsBigId b = (len : ℕ) × (1 ≤ len) × (len ≤ 16) × Headed len (IsSizedId len) b

abbrev pub IsIdText : List ℕ → Type 0
IsIdText b = (id : ℕ) × IsUnlinkId id × IsIntegerText (pos id) b

abbrev pub IsIdAt : ℕ → List ℕ → Type 0
IsIdAt levels b = (id : ℕ) × IsUnlinkId id × Spells levels (int (pos id)) b

-- ---- kinds

abbrev pub takes_pids : Kind → Bool
takes_pids Pid = true
takes_pids Name = false
takes_pids Target = true
takes_pids Reference = false

abbrev pub takes_atoms : Kind → Bool
takes_atoms Pid = false
takes_atoms Name = true
takes_atoms Target = true
takes_atoms Reference = false

abbrev pub takes_references : Kind → Bool
takes_references Pid = false
takes_references Name = false
takes_references Target = false
takes_references Reference = true

abbrev pub is_of : Kind → Data → Bool
is_of kind (pid p) = takes_pids kind
is_of kind (atom a) = takes_atoms kind
is_of kind (reference r) = takes_references kind
is_of kind t = false

-- a term of the kind has a row with this tag
abbrev pub has_tag : Kind → ℕ → Bool
has_tag kind tag =
    if tag == 88 then takes_pids kind else
    (if tag == 100 then takes_atoms kind else
    (if tag == 115 then takes_atoms kind else
    (if tag == 118 then takes_atoms kind else
    (if tag == 119 then takes_atoms kind else
    (if tag == 90 then takes_references kind else false)))))

abbrev pub IsKindAt : ℕ → Kind → List ℕ → Type 0
IsKindAt levels kind b = (t : Data) × (is_of kind t ≡ true) × Spells levels t b

-- by its own rows, in which no other term stands
abbrev pub IsOwnOf : Kind → List ℕ → Type 0
IsOwnOf kind b = (t : Data) × (is_of kind t ≡ true) × SpellsBy (Spells 0) t b

-- ---- parts

abbrev pub IsPart : ℕ → Part → List ℕ → Type 0
IsPart levels Id b = IsIdAt levels b
IsPart levels (Of kind) b = IsKindAt levels kind b
IsPart levels Term b = IsAnyTerm levels b
IsPart levels Message b = IsAnySpelling b

-- one after the other
abbrev pub AreParts : ℕ → List Part → List ℕ → Type 0
AreParts levels [] b = b ≡ []
AreParts levels (part ∷ parts) b = Both (IsPart levels part) (AreParts levels parts) b

-- ---- rows

-- the head of a tuple of so many elements, with a level for each
abbrev pub IsHeadOf : ℕ → List ℕ → Type 0
IsHeadOf arity b = Behind (λ below text. IsHead arity text) 63 b

-- the tag, and then the parts
abbrev pub AreElements : ℕ → ℕ → List Part → List ℕ → Type 0
AreElements levels tag parts b = Both (IsTagAt levels tag) (AreParts levels parts) b

-- the head, the tag and the parts, behind the version byte
pub record IsRowText (arity tag : ℕ) (parts : List Part) (b : List ℕ) : Type 0 where
  pub head : TupleHead
  pub front : List ℕ
  pub elements : List ℕ
  pub is_arity : head.arity ≡ arity
  pub is_head : IsTupleHead 64 head front
  pub are_elements : AreElements head.levels tag parts elements
  pub bytes : b ≡ front ++ elements

-- a row, by its arity, its tag and its parts
abbrev pub Entry : Type 0
Entry = ℕ × (ℕ × List Part)

abbrev pub no_entry : Entry
no_entry = (0, (0, []))

abbrev pub seen : Row → Entry
seen row = (row.arity, (row.tag, row.parts.now))

abbrev pub IsEntry : Entry → List ℕ → Type 0
IsEntry e b = IsRowText e.0 e.1.0 e.1.1 b

-- a text of one of the rows begins with the bytes
abbrev pub AnyStarts : List Entry → List ℕ → Type 0
AnyStarts rows bytes = (k : ℕ) × (k < length rows) × Starts (IsEntry (slice_index_or rows k no_entry)) bytes

-- no tag is 0
abbrev pub HaveTags : List Row → Type 0
HaveTags rows = (k : ℕ) → k < length (map seen rows) → 1 ≤ (slice_index_or (map seen rows) k no_entry).1.0
