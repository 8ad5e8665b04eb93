use denote.Param.Send.{sendable}
use Rattle.cluster_run.proofs.ThreadSafe.{seat_send}
use Rattle.cluster_tests.proofs.ThreadSafe.{nodes_sync}
use Rattle.std.proofs.Crossing
use Rattle.std.proofs.alloc.Global.TheSendSync as global
use Rattle.cluster_tests.proofs.walking.all_call.Goals as goal

pub for_each_mut-requires-send-T : goal.for_each_mut-requires-send-T
for_each_mut-requires-send-T g c = search (seat_send, global.the_field_send, Crossing.crosses, sendable) depth 60 fits 20000

pub for_each_mut-requires-sync-F : goal.for_each_mut-requires-sync-F
for_each_mut-requires-sync-F g c κs within = search (nodes_sync, Crossing.crosses, sendable) depth 60 fits 20000
