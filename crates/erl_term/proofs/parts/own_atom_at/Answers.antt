use Rattle.std.proofs.Common.{arith}
use Rattle.erl_term.proofs.PartReaders.{atom_some, atom_none}
use Rattle.erl_term.proofs.parts.own_atom_at.Goals as goal

pub returns-in-Ok : goal.returns-in-Ok
returns-in-Ok c = atom_some c.args.bytes.now c.in-Ok.atom (λ i. omega (arith, c.type_inv.bytes i)) c.in-Ok.ensures

pub returns-in-Err : goal.returns-in-Err
returns-in-Err c = atom_none c.args.bytes.now c.in-Err.field-0 c.in-Err.ensures
