use Rattle.std.proofs.Common.{◌≤◌, arith, length}
use Rattle.erl_term.proofs.Utf8.{atom_bytes}
use Rattle.erl_term.proofs.part_len.atom_len.Goals as goal

pub returns-else-len-lt256-clause-bound : goal.returns-else-len-lt256-clause-bound
returns-else-len-lt256-clause-bound c =
    let k : length c.text-len.result.now ≤ 1020 = rw c.text-len.ensures.text (atom_bytes c.args.atom.now c.text-len.ensures.fits) in
    omega arith
