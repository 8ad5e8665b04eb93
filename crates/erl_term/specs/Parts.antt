-- Parts of a term that are read where they lie, each by itself.
use Rattle.std.specs.Prelude.{◌≡◌, ℕ, ℤ, zero, suc, ◌+◌, ◌⊎◌, List, [], ◌∷◌, ◌++◌, Err, Option, IfSome, MatchOption, ◌==◌, if◌then◌else◌}
use Rattle.std.specs.Borrow.{Bor}
pub use Rattle.readers.specs.Laws.{Takes}
use Rattle.erl_term.specs.declared.error.TermError.TheVariants.{Malformed}
use Rattle.erl_term.specs.declared.parts.TupleHead.{TupleHead}
use Rattle.erl_term.specs.declared.term.Pid.{Pid}
use Rattle.erl_term.specs.declared.term.Reference.{Reference}
use Rattle.erl_term.specs.Data.{Data}
use Rattle.erl_term.specs.Spelling.{IsNumber, IsSmallInteger, IsInteger, IsSmallBig}
use Rattle.erl_term.specs.Reading.{Read, ◌>>=◌, read_number, read_small, read_integer, read_big, read_pid, read_reference}

-- so many lists with no elements, each in the tail of the one before it. Such a list stands for its tail
abbrev pub lists : ℕ → List ℕ
lists zero = []
lists (suc k) = 108 ∷ 0 ∷ 0 ∷ 0 ∷ 0 ∷ lists k

-- b is such lists, and then a text of S, where so many levels are left below it
pub record Behind (S : ℕ → List ℕ → Type 0) (levels : ℕ) (b : List ℕ) : Type 0 where
  pub k : ℕ
  pub below : ℕ
  pub text : List ℕ
  pub is_text : S below text
  pub depth : levels ≡ k + suc below
  pub bytes : b ≡ lists k ++ text

-- all such lists at the front are passed over, or the levels don't suffice for them
abbrev pub PassesOver : ℕ → List ℕ → Option (ℕ × Bor (List ℕ)) → Type 0
PassesOver levels bytes answer = MatchOption answer
    ((rest : List ℕ) × (bytes ≡ lists levels ++ rest))
    (λ x. (k : ℕ) × (levels ≡ k + suc x.0) × (bytes ≡ lists k ++ x.1.now) × ((rest : List ℕ) → x.1.now ≡ lists 1 ++ rest → ⊥))

-- the tag of a tuple, and how many elements it has
pub record IsHeadBy (tag width n : ℕ) (b : List ℕ) : Type 0 where
  pub arity : List ℕ
  pub number : IsNumber width n arity
  pub bytes : b ≡ tag ∷ arity

abbrev pub IsHead : ℕ → List ℕ → Type 0
IsHead n b = IsHeadBy 104 1 n b ⊎ IsHeadBy 105 4 n b

-- the same of a tuple of so many levels, with the levels that are left for each element
abbrev pub IsTupleHead : ℕ → TupleHead → List ℕ → Type 0
IsTupleHead levels head b = Behind (λ below text. (head.levels ≡ below) × IsHead head.arity text) levels b

-- an integer, by any of its own rows
abbrev pub IsIntegerText : ℤ → List ℕ → Type 0
IsIntegerText z b = IsSmallInteger z b ⊎ (IsInteger z b ⊎ IsSmallBig z b)

-- What a reader of the texts of S answers: the text at the front and the bytes behind it. It answers none only where no text stands there.
pub record ReadsFront {A : Type 0} (S : A → List ℕ → Type 0) (bytes : List ℕ) (answer : Option (A × Bor (List ℕ))) : Type 0 where
  pub takes : IfSome answer (λ x. Takes S bytes x.0 x.1.now)
  pub again : (a : A) (text rest : List ℕ) → S a text → bytes ≡ text ++ rest → MatchOption answer ⊥ (λ x. (x.0 ≡ a) × (x.1.now ≡ rest))

-- ---- reading them from the left

unfoldable pub head_part_at : List ℕ → Read ℕ
head_part_at bytes =
    read_number 1 bytes >>= λ tag.
    if tag.0 == 104 then read_number 1 tag.1 else (if tag.0 == 105 then read_number 4 tag.1 else Err Malformed)

unfoldable pub integer_part_at : List ℕ → Read Data
integer_part_at bytes =
    read_number 1 bytes >>= λ tag.
    if tag.0
    == 97 then read_small tag.1 else (if tag.0 == 98 then read_integer tag.1 else (if tag.0 == 110 then read_big tag.1 else Err Malformed))

unfoldable pub pid_part_at : List ℕ → Read Pid
pid_part_at bytes =
    read_number 1 bytes >>= λ tag.
    if tag.0 == 88 then read_pid tag.1 else Err Malformed

unfoldable pub reference_part_at : List ℕ → Read Reference
reference_part_at bytes =
    read_number 1 bytes >>= λ tag.
    if tag.0 == 90 then read_reference tag.1 else Err Malformed
