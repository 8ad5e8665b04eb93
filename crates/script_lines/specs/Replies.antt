-- The last reply of a script, and the lines that expect one.
use Rattle.std.specs.Prelude.{ℕ, List, Option, None, Some, Bool}
use Rattle.std.specs.Str.{bytes_eq}
use Rattle.script_lines.specs.Breaks.{last_line, later}
use Rattle.script_lines.specs.Said.{Said}
use Rattle.script_lines.specs.Said as says
use Rattle.script_terms.specs.Binding.{Look}
use Rattle.script_terms.specs.Filling.{filled}

-- the last line that a command has printed is the reply, until another prints one
abbrev pub reply_after : (text reply : List ℕ) → List ℕ
reply_after text reply = later reply (last_line text)

-- the words that a line expects
abbrev pub expected : Said → Option (List ℕ)
expected (says.Expect words) = Some words
expected _ = None

-- with the printed forms of the things that its names name, they are the whole reply
abbrev pub is_met : Look → (reply words : List ℕ) → Bool
is_met look reply words = bytes_eq (filled look words) reply
