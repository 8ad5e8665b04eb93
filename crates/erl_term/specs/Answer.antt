-- The answer that is due to bytes: the term at their front, or why none is there.
use Rattle.std.specs.Prelude.{ℕ, ◌<◌, ◌≤◌, ◌⊎◌, List, length, Result, Ok, Err}
use Rattle.erl_term.specs.declared.error.TermError.{TermError}
use Rattle.erl_term.specs.declared.error.TermError.TheVariants.{Cut, Malformed, OutOfProfile, TooDeep, TooLong, OutOfMemory}
use Rattle.erl_term.specs.Data.{Data}
pub use Rattle.erl_term.specs.Limits.{limit}
use Rattle.erl_term.specs.Faults.{IsInside, IsAtFront, HasFault}

-- too long: the bytes end inside a spelling, or with one, that has more bytes than the limit
abbrev pub IsTooLong : List ℕ → Type 0
IsTooLong bytes = ((limit < length bytes) × IsInside 64 bytes) ⊎ ((t : Data) × (n : ℕ) × (limit < n) × IsAtFront bytes t n)

-- Each error but one is said of the bytes alone; want of memory is never due.
abbrev pub IsDue : List ℕ → Result (Data × ℕ) TermError → Type 0
IsDue bytes (Ok x) = IsAtFront bytes x.0 x.1 × (x.1 ≤ limit)
IsDue bytes (Err Cut) = IsInside 64 bytes × (length bytes ≤ limit)
IsDue bytes (Err Malformed) = HasFault bytes Malformed
IsDue bytes (Err (OutOfProfile tag)) = HasFault bytes (OutOfProfile tag)
IsDue bytes (Err TooDeep) = HasFault bytes TooDeep
IsDue bytes (Err TooLong) = IsTooLong bytes
IsDue bytes (Err OutOfMemory) = ⊥
