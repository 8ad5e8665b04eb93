-- Short names are names of atoms.
use Rattle.std.proofs.Common.{◌≤◌, ℕ, List, length}
use Rattle.std.proofs.lemmas.Str.{chars-IsAscii}
use Rattle.std.specs.Str.{IsAscii, chars}

pub short_name : (name : List ℕ) → IsAscii name → length name ≤ 255 → length (chars name) ≤ 255
short_name name ascii short = rw (chars-IsAscii name ascii) short
