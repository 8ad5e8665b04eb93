use Rattle.std.proofs.Common.{◌≡◌, ◌-◌, length}
use Rattle.script_terms.specs.Reading.{byte_at, separated_at}
use Rattle.script_terms.proofs.Separated.{with_front}
use Rattle.script_terms.proofs.reading.bytes_of.Given as goal

abbrev pub invariant-loop : goal.invariant-loop
invariant-loop l =
    with_front l.items.items (separated_at byte_at 62 (length l.bytes - l.counter) l.rest)
    ≡ separated_at byte_at 62 (length l.bytes) l.bytes
