use Rattle.c_library.specs.Pids.{pid_on}
use Rattle.c_library.proofs.Written.{pid_written}
use Rattle.c_library.proofs.buffers.put_pid.Goals as goal

pub returns : goal.returns
returns c =
    pid_written _ _ _ _ _ _ (pid_on c.args.node.now c.args.pid) _ _ _ _ _ _ c.put_bytes-tag.ensures c.put_atom-node.ensures c.put_u32-id.ensures
    c.put_u32-serial.ensures c.put_u32.ensures
