-- The first space of a text that stands outside of quotes.
use Rattle.std.specs.Prelude.{ℕ, suc, Bool, false, ◌==◌, List, [], ◌∷◌, take, drop, if◌then◌else◌}
use Rattle.script_terms.specs.Unbound.{behind}
use Rattle.script_terms.specs.declared.unbound.Place.{Place}
use Rattle.script_terms.specs.declared.unbound.Place.TheVariants.{Outside, Quoted, Escaped}

abbrev pub is_gap : Place → ℕ → Bool
is_gap Outside c = c == 32
is_gap Quoted c = false
is_gap Escaped c = false

-- the number of bytes before that space, or of all bytes if there is none
unfoldable pub count_before : Place → List ℕ → ℕ
count_before place [] = 0
count_before place (c ∷ cs) = if is_gap place c then 0 else suc (count_before (behind place c) cs)

-- the text before that space, and the text from there on
abbrev pub before_space : List ℕ → List ℕ
before_space text = take (count_before Outside text) text

abbrev pub from_space : List ℕ → List ℕ
from_space text = drop (count_before Outside text) text
