-- What the canonical spelling of a term takes, and what of a term decides how much a term takes that holds it.
use Rattle.std.specs.Prelude.{ℕ, ◌-◌, ◌^◌, min, List, length, Result, Ok, Err, if◌then◌else◌}
use Rattle.std.specs.Borrow.{Bor}
use Rattle.erl_term.specs.declared.error.TermError.{TermError}
use Rattle.erl_term.specs.declared.size.Size.{Size}
use Rattle.erl_term.specs.declared.size.Run.{Run}
use Rattle.erl_term.specs.declared.size.Measure.{Measure}
use Rattle.erl_term.specs.declared.size.Measure.TheVariants.{Byte, Other, Proper, Improper}
use Rattle.erl_term.specs.Data.{Data, list, improper, Items, count}
use Rattle.erl_term.specs.Canonical.{is_byte, are_byte_items, canonical_term, canonical_items, levels_of, most_levels}
use Rattle.erl_term.specs.Reading.{Read, Answers}

-- a number in 64 bits, of which the greatest stands for all above it too
abbrev pub capped : ℕ → ℕ
capped n = min n (2 ^ 64 - 1)

unfoldable pub size_of : Data → Size
size_of t = record { len = capped (length (canonical_term t)); levels = capped (levels_of t) }

unfoldable pub run_of : Items → Run
run_of ts = record {
  count = capped (count ts);
  are_bytes = are_byte_items ts;
  len = capped (length (canonical_items ts));
  levels = capped (most_levels ts);
}

unfoldable pub measure_of : Data → Measure
measure_of (list ts) = Proper (run_of ts)
measure_of (improper ts t) = Improper (run_of ts) (size_of t)
measure_of t = if is_byte t then Byte else Other (size_of t)

-- what is read, seen by f
abbrev pub seen_by : {A B : Type 0} → (A → B) → Read A → Read B
seen_by f (Ok x) = Ok (f x.0, x.1)
seen_by f (Err e) = Err e

-- the same answer as that of a reader, but that a value is seen by f
abbrev pub Measures : {A B : Type 0} → (A → B) → Read A → Result (B × Bor (List ℕ)) TermError → Type 0
Measures f read result = Answers (λ x. (x.0, x.1.now)) result (seen_by f read)
