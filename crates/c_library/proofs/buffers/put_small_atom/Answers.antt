use Rattle.std.proofs.Common.{length, [], ◌∷◌}
use Rattle.c_library.proofs.Written.{both}
use Rattle.c_library.proofs.buffers.put_small_atom.Goals as goal

pub returns : goal.returns
returns c =
    both c.args.start _ _ (119 ∷ length c.args.text.now ∷ []) c.args.text.now c.args.out.now _ _ c.put_bytes-behind.ensures c.put_bytes.ensures
