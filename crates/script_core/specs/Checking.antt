-- Scripts that are run for their outcomes: how many have passed.
use Rattle.std.specs.Prelude.{ℕ, ◌+◌, ◌-◌, ◌^◌, ◌==◌, min, if◌then◌else◌}
use Rattle.script_core.specs.declared.checking.Tally.{Tally}
use Rattle.script_core.specs.declared.script.Outcome.{Outcome}
use Rattle.script_core.specs.declared.script.Outcome.TheVariants.{Ran}

-- a count ends at the greatest number of 64 bits
abbrev pub one_more : ℕ → ℕ
one_more n = min (n + 1) (2 ^ 64 - 1)

-- only a script that ran through has passed
abbrev pub counted : Outcome → Tally → Tally
counted Ran tally = record tally { passed = one_more tally.passed }
counted outcome tally = record tally { failed = one_more tally.failed }

abbrev pub tally_status : Tally → ℕ
tally_status tally = if tally.failed == 0 then 0 else 7
