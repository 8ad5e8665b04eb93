use Rattle.std.proofs.Common.{refl}
use Rattle.control_beginnings.proofs.Wrapping.{nil_of}
use Rattle.control_beginnings.proofs.IdRows.{big_none}
use Rattle.control_beginnings.proofs.numbers.big_id_begins.Goals as goal

pub returns-in-empty : goal.returns-in-empty
returns-in-empty c = (λ t. big_none c.args.bytes.now (nil_of c.args.bytes.now c.in-empty.len_below), λ s. refl)
