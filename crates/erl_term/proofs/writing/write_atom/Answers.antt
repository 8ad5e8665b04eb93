use Rattle.std.proofs.Common.{◌≤◌, arith, length}
use Rattle.erl_term.proofs.Utf8.{atom_bytes}
use Rattle.erl_term.proofs.writing.write_atom.Goals as goal

pub overflow_cast-text-else-text-lt256 : goal.overflow_cast-text-else-text-lt256
overflow_cast-text-else-text-lt256 c =
    let k : length c.text-text.result.now ≤ 1020 = rw c.text-text.ensures.text (atom_bytes c.args.atom.now c.text-text.ensures.fits) in
    search arith
