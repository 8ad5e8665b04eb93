use Rattle.c_library.proofs.Written.{both}
use Rattle.c_library.proofs.writing.put_pids.Goals as goal

pub returns : goal.returns
returns c = both _ _ _ _ _ _ _ _ c.put_pid-middle.ensures c.put_pid.ensures
