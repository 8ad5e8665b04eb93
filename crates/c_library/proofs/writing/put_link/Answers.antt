use Rattle.c_library.proofs.Putting.{link_written}
use Rattle.c_library.proofs.writing.put_link.Goals as goal

pub returns : goal.returns
returns c = link_written _ _ _ c.args.pids _ _ _ c.link_len.ensures.len c.put_opening-fields.ensures c.put_pids.ensures
