use Rattle.std.proofs.Common.{◌≡◌, length}
use Rattle.script_terms.specs.Reading.{pieces_at}
use Rattle.script_terms.proofs.Pieces.{goes}
use Rattle.script_terms.proofs.atoms.quoted_of.Given as goal

abbrev pub invariant-loop : goal.invariant-loop
invariant-loop l = goes l.text.items (length l.bytes) l.counter l.rest ≡ pieces_at (length l.bytes) l.bytes
