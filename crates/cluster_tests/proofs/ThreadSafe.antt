-- Any thread may call the nodes of a test.
use denote.Param.Send.{IsSync, sendable}
use Rattle.cluster_run.proofs.ThreadSafe.{cluster_sync}
use Rattle.cluster_run.specs.contracts.cluster.Cluster as cluster
use Rattle.cluster_tests.specs.contracts.meeting.Pieces as pieces
use Rattle.std.proofs.Crossing

pub nodes_sync : IsSync (cluster.the_row pieces.the_row)
nodes_sync = cluster_sync pieces.the_row (search (Crossing.crosses, sendable)) (search (Crossing.crosses, sendable))
