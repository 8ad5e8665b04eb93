-- How many of something a second has.
use Rattle.std.specs.Prelude.{ℕ, ◌*◌, ◌/◌, max}
use Rattle.std.specs.declared.time.Duration.{Duration}
use Rattle.std.specs.Duration.{as_nanos}

-- a time in nanoseconds, of which 0 count as 1
abbrev pub nanos_of : Duration → ℕ
nanos_of elapsed = max (as_nanos elapsed) 1

-- so many in that time, rounded down
abbrev pub a_second : ℕ → Duration → ℕ
a_second n elapsed = n * 1_000_000_000 / nanos_of elapsed

-- the same of bytes, in megabytes of 1,000,000
abbrev pub megabytes_a_second : ℕ → Duration → ℕ
megabytes_a_second bytes elapsed = a_second bytes elapsed / 1_000_000
