use denote.Param.Send.{sendable}
use Rattle.cluster_run.proofs.ThreadSafe.{seat_field}
use Rattle.cluster_tests.proofs.ThreadSafe.{nodes_sync}
use Rattle.cluster_tests.proofs.measuring.Work.TheSendSync as work
use Rattle.erl_term.proofs.term.Pid.TheSendSync as pid
use Rattle.std.proofs.Crossing
use Rattle.cluster_tests.proofs.measuring.all_call.Goals as goal

pub for_each_mut-requires-send-T : goal.for_each_mut-requires-send-T
for_each_mut-requires-send-T g c =
    search (seat_field, work.the_field_send, pid.the_field_send, Crossing.crosses, sendable) depth 60 fits 20000

pub for_each_mut-requires-sync-F : goal.for_each_mut-requires-sync-F
for_each_mut-requires-sync-F g c κs within = search (nodes_sync, Crossing.crosses, sendable) depth 60 fits 20000
