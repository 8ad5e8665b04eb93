use denote.Param.Send.{sendable}
use Rattle.cluster_run.proofs.ThreadSafe.{arc_send, bell_send}
use Rattle.cluster_run.proofs.cluster.start.Goals as goal

pub spawn-thread-requires-send-F : goal.spawn-thread-requires-send-F
spawn-thread-requires-send-F g c κs within = search (arc_send, bell_send, sendable) depth 60 fits 20000
