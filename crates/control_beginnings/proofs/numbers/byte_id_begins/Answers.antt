use Rattle.std.proofs.Common.{refl}
use Rattle.control_beginnings.proofs.Wrapping.{nil_of}
use Rattle.control_beginnings.proofs.Identified.{byte_some}
use Rattle.control_beginnings.proofs.numbers.byte_id_begins.Goals as goal

pub returns-in-empty : goal.returns-in-empty
returns-in-empty c = (λ t. byte_some c.args.field.now (nil_of c.args.field.now c.in-empty.len_below), λ s. refl)
