use Rattle.std.proofs.Common.{rules, length, ◌∷◌}
use Rattle.byteorder.specs.Endian.{big_bytes}
use Rattle.c_library.specs.Written.{IsWritten}
use Rattle.c_library.proofs.Written.{both}
use Rattle.c_library.proofs.buffers.put_large_atom.Goals as goal

pub returns : goal.returns
returns c =
    let head : IsWritten c.args.start (118 ∷ big_bytes 2 (length c.args.text.now)) c.args.out.now c.put_bytes-behind.result c.put_bytes-behind.new.out = search rules in
    both c.args.start _ _ (118 ∷ big_bytes 2 (length c.args.text.now)) c.args.text.now c.args.out.now _ _ head c.put_bytes.ensures
