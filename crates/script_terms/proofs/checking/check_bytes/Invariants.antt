use Rattle.std.proofs.Common.{◌≡◌, ℕ, ◌-◌, List, length}
use Rattle.script_terms.specs.Reading.{byte_at, separated_at}
use Rattle.script_terms.proofs.Separated.{with_front}
use Rattle.script_terms.proofs.checking.check_bytes.Given as goal

abbrev pub invariant-loop : goal.invariant-loop
invariant-loop l =
    (front : List ℕ)
    × (with_front front (separated_at byte_at 62 (length l.bytes - l.counter) l.rest) ≡ separated_at byte_at 62 (length l.bytes) l.bytes)
