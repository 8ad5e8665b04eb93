-- Terms that stand one behind the other, by where each ends.
use Rattle.std.specs.Prelude.{◌≡◌, ℕ, ◌+◌, ◌≤◌, List, ◌++◌, length, drop}
use Rattle.erl_term.specs.Data.{Data}
use Rattle.erl_term.specs.Spelling.{Spells}

-- the term that begins at one place, if any does, ends at the other
pub record IsEnd (levels : ℕ) (bytes : List ℕ) (start stop : ℕ) : Type 0 where
  pub later : start ≤ stop
  pub within : stop ≤ length bytes
  pub is_end : (t : Data) (text rest : List ℕ) → Spells levels t text → drop start bytes ≡ text ++ rest → stop ≡ start + length text
