-- The lines about all items of some bytes, one behind the other.
use Rattle.std.specs.Prelude.{◌≡◌, ℕ, ◌+◌, ◌<◌, ◌≤◌, List, [], ◌∷◌, ◌++◌, Option, Some, None, Bool, true, false, ◌&&◌, drop, length}
use Rattle.item_decoder.specs.Answers.{IsBegun, is_found}
use Rattle.item_decoder.specs.Lines.{told_line}
use Rattle.item_decoder.specs.Objects.{json_line}
use Rattle.item_decoder.specs.Stages.{after, reader_of}
use Rattle.item_decoder.specs.Told.{IsTold}
use Rattle.item_decoder.specs.declared.all.Progress.{Progress}
use Rattle.item_decoder.specs.declared.all.Step.{Step}
use Rattle.item_decoder.specs.declared.all.Style.{Style}
use Rattle.item_decoder.specs.declared.answers.Answer.{Answer}
use Rattle.item_decoder.specs.declared.stages.Next.{Next}
use Rattle.item_decoder.specs.declared.told.Told.{Told}

-- in words, in JSON, or in words with lines about its fields behind, which are open
abbrev pub IsLine : Style → (at : ℕ) → Told → List ℕ → Type 0
IsLine Style.Words at told line = line ≡ told_line at told
IsLine Style.Json at told line = line ≡ json_line at told
IsLine Style.Tree at told line = (fields : List ℕ) × (line ≡ told_line at told ++ fields)

-- each of them was
abbrev pub all_found : List Told → Bool
all_found [] = true
all_found (told ∷ more) = is_found told.answer && all_found more

-- the lines of the items of these bytes, one behind the other. The first is at this place, and a reader comes next. Bytes are left
-- over, and a reader for these
abbrev pub AreLines : Style → Next → (at : ℕ) → (bytes lines : List ℕ) → List Told → (left : List ℕ) → Next → Type 0
AreLines style next at bytes lines [] left last = (lines ≡ []) × (left ≡ bytes) × (last ≡ next)
AreLines style next at bytes lines (told ∷ more) left last =
    IsTold (reader_of next bytes) bytes told × (line behind : List ℕ) × IsLine style at told line × (lines ≡ line ++ behind)
    × AreLines style (after next told.answer) (at + told.len) (drop told.len bytes) behind more left last

-- a step over it
abbrev pub step_over : Next → Told → Step
step_over next told = record { len = told.len; next = after next told.answer; found = is_found told.answer }

-- a line about it was appended; or it may go on, and nothing was
abbrev pub MayStep : Style → Next → (at : ℕ) → Told → (ends : Bool) → (old new : List ℕ) → Option Step → Type 0
MayStep style next at told ends old new (Some step) = (step ≡ step_over next told) × (line : List ℕ) × IsLine style at told line × (new ≡ old ++ line)
MayStep style next at told ends old new None = (ends ≡ false) × (told.answer ≡ Answer.Begun) × (new ≡ old)

-- how many bytes they take
abbrev pub total : List Told → ℕ
total [] = 0
total (told ∷ more) = told.len + total more

-- nothing is left, or what is left begins an item that may go on
abbrev pub IsRest : (ends : Bool) → Next → List ℕ → Type 0
IsRest true next left = left ≡ []
IsRest false next left = 0 < length left → IsBegun (reader_of next left) left

-- the lines of all items of the bytes, of which so many are told of, and if each was read
pub record IsProgress (style : Style) (next : Next) (at : ℕ) (bytes lines : List ℕ) (ends : Bool) (progress : Progress) (last : Next) : Type 0 where
  pub tolds : List Told
  pub are : AreLines style next at bytes lines tolds (drop progress.taken bytes) last
  pub found : progress.all_read ≡ all_found tolds
  pub within : progress.taken ≤ length bytes
  pub rest : IsRest ends last (drop progress.taken bytes)
