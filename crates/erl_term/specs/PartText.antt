-- The text of an atom where it lies in bytes that were read.
use Rattle.std.specs.Prelude.{ℕ, List, length, ◌≤◌}
use Rattle.std.specs.Str.{chars}
use Rattle.erl_term.specs.declared.parts.Text.{Text}
use Rattle.erl_term.specs.declared.parts.Text.TheVariants.{Utf8, Latin}
use Rattle.erl_term.specs.Text.{latin_text}

abbrev pub text_of : Text → List ℕ
text_of (Utf8 text) = text.now
text_of (Latin letters) = latin_text letters.now

abbrev pub IsShort : Text → Type 0
IsShort (Utf8 text) = length (chars text.now) ≤ 255
IsShort (Latin letters) = length letters.now ≤ 255
