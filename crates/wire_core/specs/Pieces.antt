-- What travels on a wire: some bytes of a node's stream to its peer, all of one event.
use Rattle.std.specs.Prelude.{ℕ, ◌≤◌, List}

pub record PieceSeen : Type 0 where
  pub stamp : ℕ
  pub bytes : List ℕ

-- a length that a piece may have
abbrev pub IsLength : ℕ → Type 0
IsLength n = (1 ≤ n) × (n ≤ 512)

abbrev pub piece_of : ℕ → List ℕ → PieceSeen
piece_of stamp bytes = record { stamp = stamp; bytes = bytes }
