-- How much has been read of a script by what keeps its lines.
use Rattle.std.specs.Prelude.{◌≡◌, ◌≤◌, ◌<◌, ◌+◌, ℕ, List, ◌∷◌, ◌++◌, length, Option, None, Some, Result, Ok, Err}
use Rattle.script_lines.specs.Breaks.{IsOneLine}
use Rattle.script_core.specs.Script.{lines_of}
use Rattle.script_core.specs.declared.script.Outcome.{Outcome}
use Rattle.script_core.specs.declared.script.Outcome.TheVariants.{Ran, BadLine, Unmerged}
use Rattle.script_core.specs.declared.script.Script.{Script}
use Rattle.script_lines.specs.declared.reason.Reason.TheVariants.{TooLong}

-- Of the bytes the whole lines are kept, of which the first has this number. The rest is of the line that comes
pub record HasKept {S : Type 0} (keeps : S → List (List ℕ) → Type 0) (s : Script S) (first : ℕ) (bytes : List ℕ) : Type 0 where
  pub lines : List (List ℕ)
  pub session : keeps s.session lines
  pub number : s.number ≡ first + length lines
  pub within : s.number ≤ 1048577
  pub one_line : IsOneLine s.pending.items
  pub goes : (rest : List ℕ) → lines_of (bytes ++ rest) ≡ lines ++ lines_of (s.pending.items ++ rest)

-- all lines of the bytes are kept
pub record KeptAll {S : Type 0} (keeps : S → List (List ℕ) → Type 0) (s : Script S) (first : ℕ) (bytes : List ℕ) : Type 0 where
  pub lines : List (List ℕ)
  pub session : keeps s.session lines
  pub number : s.number ≡ first + length lines
  pub within : s.number ≤ 1048577
  pub all : lines_of bytes ≡ lines

pub record BeginsTooLong (lines : List (List ℕ)) : Type 0 where
  pub line : List ℕ
  pub more : List (List ℕ)
  pub parts : lines ≡ line ∷ more
  pub long : 65536 < length line

-- of what keeps its lines a bad line is one that is too long: the first of those that aren't kept, which has this number
abbrev pub Blames : (number : ℕ) (left : List (List ℕ)) → Outcome → Type 0
Blames number left (BadLine bad reason) = (bad ≡ number) × (number ≤ 1048576) × (reason ≡ TooLong) × BeginsTooLong left
Blames number left Ran = ⊥
Blames number left Unmerged = ⊥
Blames number left outcome = Unit {0}

-- the first lines are kept, whatever else comes, and an error is true of those that are left
pub record Stopped {S : Type 0} (keeps : S → List (List ℕ) → Type 0) (s : Script S) (first : ℕ) (bytes : List ℕ) (outcome : Outcome)
    : Type 0 where
  pub lines : List (List ℕ)
  pub session : keeps s.session lines
  pub number : s.number ≡ first + length lines
  pub within : s.number ≤ 1048577
  pub left : List ℕ → List (List ℕ)
  pub goes : (rest : List ℕ) → lines_of (bytes ++ rest) ≡ lines ++ left rest
  pub blames : (rest : List ℕ) → Blames s.number (left rest) outcome

abbrev pub Came : {S : Type 0} → (S → List (List ℕ) → Type 0) → Script S → (first : ℕ) (bytes : List ℕ) → Result (Unit {0}) Outcome → Type 0
Came keeps s first bytes (Ok x) = HasKept keeps s first bytes
Came keeps s first bytes (Err outcome) = Stopped keeps s first bytes outcome

-- the first lines are kept, and an error is true of those that are left
pub record StopsShort {S : Type 0} (keeps : S → List (List ℕ) → Type 0) (s : Script S) (first : ℕ) (bytes : List ℕ) (outcome : Outcome)
    : Type 0 where
  pub lines : List (List ℕ)
  pub session : keeps s.session lines
  pub number : s.number ≡ first + length lines
  pub within : s.number ≤ 1048577
  pub left : List (List ℕ)
  pub goes : lines_of bytes ≡ lines ++ left
  pub blames : Blames s.number left outcome

-- nothing comes behind the bytes
abbrev pub ComesToEnd : {S : Type 0} → (S → List (List ℕ) → Type 0) → Script S → (first : ℕ) (bytes : List ℕ) → Outcome → Type 0
ComesToEnd keeps s first bytes Ran = KeptAll keeps s first bytes
ComesToEnd keeps s first bytes outcome = StopsShort keeps s first bytes outcome

-- more of what was left has been read
pub record ReadMore {S : Type 0} (keeps : S → List (List ℕ) → Type 0) (s : Script S) (first : ℕ) (bytes left : List ℕ)
    (remaining : Option (List ℕ)) : Type 0 where
  pub chunk : List ℕ
  pub after : List ℕ
  pub parts : left ≡ chunk ++ after
  pub remains : remaining ≡ Some after
  pub kept : HasKept keeps s first (bytes ++ chunk)

abbrev pub ReadsOn : {S : Type 0} → (S → List (List ℕ) → Type 0) → Script S → (first : ℕ) (bytes left : List ℕ) → Option (List ℕ)
    → Option Outcome → Type 0
ReadsOn keeps s first bytes left remaining None = ReadMore keeps s first bytes left remaining
ReadsOn keeps s first bytes left remaining (Some outcome) = ComesToEnd keeps s first (bytes ++ left) outcome
