-- How long a spelling may be. Its levels are 64 at most.
use Rattle.std.specs.Prelude.{ℕ}

-- bytes, with the version byte
abbrev pub limit : ℕ
limit = 1048576
