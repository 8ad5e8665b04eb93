-- The answers to vectors.
use Rattle.std.specs.Prelude.{◌≡◌, ◌≢◌, ◌<◌, ◌≤◌, ℕ, List, ◌++◌, length, take, codes, Ok}
use Rattle.std.specs.Fmt.{decimal}
use Rattle.hex.specs.Hex.{encode_upper}
use Rattle.erl_term.specs.Data.{Data}
use Rattle.erl_term.specs.Answer.{IsDue}
use Rattle.erl_term.specs.Canonical.{canonical}
use Rattle.script_terms.specs.Printing.{term_text}

-- the words of a value, or three dots in place of very many
pub record IsShown (words shown : List ℕ) : Type 0 where
  pub fits : length words ≤ 10000 → shown ≡ words
  pub dots : 10000 < length words → shown ≡ codes "..."

-- the bytes that are written, by a word
pub record IsSpelledAs (read written word : List ℕ) : Type 0 where
  pub same : read ≡ written → word ≡ codes "="
  pub other : read ≢ written → word ≡ encode_upper written

-- a value was read from these bytes, has those when it is written, and has these words
pub record IsReading (read written words text : List ℕ) : Type 0 where
  pub word : List ℕ
  pub shown : List ℕ
  pub is_word : IsSpelledAs read written word
  pub is_shown : IsShown words shown
  pub parts : text ≡ codes "reads " ++ decimal (length read) ++ codes " " ++ word ++ codes " " ++ shown

-- The answer where a term stands at the front. The text of an error is open.
abbrev pub IsTermAnswer : List ℕ → List ℕ → Type 0
IsTermAnswer bytes text =
    (t : Data) (n : ℕ) → IsDue bytes (Ok (t, n)) → IsReading (take n bytes) (canonical t) (term_text t) text
