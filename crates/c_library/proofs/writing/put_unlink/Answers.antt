use Rattle.c_library.proofs.Putting.{unlink_written}
use Rattle.c_library.proofs.writing.put_unlink.Goals as goal

pub returns : goal.returns
returns c =
    unlink_written _ _ _ _ c.args.tag c.args.id c.args.pids _ _ _ _ c.unlink_len.ensures.len c.put_opening-fields.ensures c.put_integer-behind.ensures
    c.put_pids.ensures
