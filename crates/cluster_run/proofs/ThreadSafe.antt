-- A node's book, with the terms in it, may go to another thread.
use denote.Builtin
use denote.Param.Send.{IsSend, IsSync, plain_send, plain_sync, recorded_send, recorded_sync, sendable, struct_send, struct_sync}
use denote.RattleType.{RattleType}
use denote.Struct.Declared.{shape}
use Rattle.cluster_run.proofs.worker.Worker.TheSendSync as worker
use Rattle.cluster_run.specs.contracts.cluster.Cluster as cluster
use Rattle.cluster_run.specs.contracts.cluster.Running as running
use Rattle.cluster_run.specs.contracts.desk.Desk as desk
use Rattle.cluster_run.specs.contracts.desk.Shared as shared
use Rattle.crossbeam_channel.proofs.channel.Receiver.TheSendSync as receiver
use Rattle.crossbeam_channel.proofs.channel.Sender.TheSendSync as sender
use Rattle.crossbeam_channel.specs.contracts.channel.Receiver as a_receiver
use Rattle.crossbeam_channel.specs.contracts.channel.Sender as a_sender
use Rattle.dist_model.proofs.links.Links.TheSendSync as links
use Rattle.erl_handshake.proofs.setup.Setup.TheSendSync as setup
use Rattle.erl_handshake.specs.contracts.identity.Identity as identity
use Rattle.erl_names.proofs.name.NodeName.TheSendSync as name
use Rattle.erl_names.specs.contracts.name.NodeName as a_name
use Rattle.erl_names.proofs.trunk.TrunkId.TheSendSync as trunk
use Rattle.erl_term.proofs.atom.Atom.TheSendSync as atom
use Rattle.erl_term.proofs.refusal.Refusal.TheSendSync as refusal
use Rattle.erl_term.proofs.term.Pid.TheSendSync as pid
use Rattle.erl_term.proofs.term.Reference.TheSendSync as reference
use Rattle.erl_term.proofs.term.Term.TheLaws.TheKnot
use Rattle.erl_term.specs.contracts.payload.Payload as payload
use Rattle.link_core.specs.contracts.ends.Ends as ends
use Rattle.monitor_core.specs.contracts.watchers.Watchers as watchers
use Rattle.monitor_core.specs.contracts.watches.Watches as watches
use Rattle.node_lock.proofs.dialing.Left.TheSendSync as left
use Rattle.node_lock.proofs.outlet.Outlet.TheSendSync as outlet
use Rattle.node_lock.specs.contracts.book.Book as book
use Rattle.node_core.specs.contracts.node.Node as node
use Rattle.node_plan.specs.contracts.node.Node as state
use Rattle.node_tables.specs.contracts.incarnation.Incarnation as incarnation
use Rattle.node_tables.specs.contracts.names.Names as names
use Rattle.node_tables.specs.contracts.sides.Sides as sides
use Rattle.node_history.specs.contracts.entry.Entry as entry
use Rattle.node_history.specs.contracts.history.History as history
use Rattle.node_lock.specs.contracts.seat.Asked as asked
use Rattle.node_lock.specs.contracts.seat.Receipt as receipt
use Rattle.node_lock.specs.contracts.seat.Seat as seat
use Rattle.node_frames.proofs.frame.Frame.TheSendSync as frame
use Rattle.sorted_map.proofs.nodes.Node.TheLaws.TheKnot as NodeKnot
use Rattle.sorted_map.specs.contracts.index_tree.IndexTree as index_tree
use Rattle.std.below.std_heap.proofs.GlobalAllocator.TheSendSync as heap
use Rattle.std.proofs.Crossing
use Rattle.std.proofs.alloc.Global.TheSendSync as global
use Rattle.std.proofs.sync.Arc.TheSendSync as arc
use Rattle.std.proofs.sync.atomic.AtomicBool.TheSendSync as flag
use Rattle.std.proofs.sync.atomic.AtomicU64.TheSendSync as number
use Rattle.std.proofs.vec.Vec.TheSendSync as vec
use Rattle.std.specs.contracts.alloc.Global as the_global
use Rattle.std.specs.contracts.impls.GlobalAllocator.TheImpl
use Rattle.std.specs.contracts.sync.Arc as an_arc
use Rattle.std.specs.contracts.sync.atomic.AtomicBool as a_flag
use Rattle.std.specs.contracts.vec.Vec as a_vec
use Rattle.wire_core.proofs.offer.Offer.TheSendSync as offer
use Rattle.wire_core.specs.contracts.offer.Offer as an_offer
use Rattle.node_core.specs.contracts.node_event.NodeEvent as event

payload_send : IsSend payload.the_row
payload_send =
    search (Crossing.crosses, TheKnot.crosses, atom.the_send, pid.the_field_send, reference.the_field_send, sendable) depth 60 fits 20000

-- what an entry tells, and a receipt, is of these
ruleset of_told = (
  payload_send,
  refusal.the_send,
  name.the_send,
  trunk.the_send,
  frame.the_send,
  links.the_send,
  Crossing.crosses,
  TheKnot.crosses,
  pid.the_field_send,
  reference.the_field_send,
  sendable,
)

entry_send : IsSend entry.the_row
entry_send = search of_told depth 60 fits 20000

-- the tables of links, of monitors and of names, which are trees
ends_send : IsSend ends.the_row
ends_send = search (NodeKnot.crosses, Crossing.crosses, pid.the_field_send, sendable) depth 60 fits 20000

tree_send : IsSend index_tree.the_row
tree_send = search (Crossing.crosses, NodeKnot.crosses, sendable) depth 60 fits 20000

watches_send : IsSend watches.the_row
watches_send = search (tree_send, Crossing.crosses, pid.the_field_send, reference.the_field_send, sendable) depth 60 fits 20000

watchers_send : IsSend watchers.the_row
watchers_send = search (tree_send, Crossing.crosses, pid.the_field_send, reference.the_field_send, sendable) depth 60 fits 20000

names_field : IsSend (names.the_field).row
names_field = search (NodeKnot.crosses, Crossing.crosses, atom.the_send, pid.the_field_send, sendable) depth 60 fits 20000

-- the other parts of a node, with the terms in them
ruleset of_terms = (
  ends_send,
  Crossing.crosses,
  TheKnot.crosses,
  atom.the_send,
  pid.the_field_send,
  reference.the_field_send,
  sendable,
)

incarnation_field : IsSend (incarnation.the_field).row
incarnation_field = search of_terms depth 60 fits 20000

identity_field : IsSend (identity.the_field).row
identity_field = search of_terms depth 60 fits 20000

sides_field : IsSend (sides.the_field).row
sides_field = search of_terms depth 60 fits 20000

-- the parts of a node in their order
node_field : IsSend node.the_field.row
node_field = struct_send (shape node.the_type) (
  struct_send (shape state.the_type) (
    incarnation_field,
    (names_field, (identity_field, (plain_send _ _ _ _ _, (watches_send, (watchers_send, (sides_field, (search of_terms depth 60 fits 20000, tt))))))),
  ),
  (search of_terms depth 60 fits 20000, tt),
)

history_field : IsSend history.the_field.row
history_field = search (entry_send, node_field, Crossing.crosses, sendable) depth 60 fits 20000

book_send : IsSend book.the_row
book_send = search
    (history_field, name.the_send, setup.the_send, outlet.the_send, left.the_send, Crossing.crosses, TheKnot.crosses, sendable)
    depth 60 fits 20000

-- ---- a caller may be in any thread

receipt_send : IsSend (receipt.the_field).row
receipt_send = search of_told depth 60 fits 20000

event_send : IsSend (event.the_field).row
event_send = search
    (payload_send, name.the_send, Crossing.crosses, TheKnot.crosses, pid.the_field_send, reference.the_field_send, sendable)
    depth 60 fits 20000

asked_send : IsSend asked.the_row
asked_send =
    recorded_send (asked.the_field).row _ _ (asked.the_type).to_one (struct_send (shape asked.the_type) (event_send, (receipt_send, tt)))

pub seat_field : IsSend (seat.the_field).row
seat_field = search (asked_send, Crossing.crosses, TheKnot.crosses, sendable) depth 60 fits 20000

pub seat_send : IsSend seat.the_row
seat_send = recorded_send (seat.the_field).row _ _ (seat.the_type).to_one seat_field

-- ---- what the threads share

pub bell_send : IsSend (a_sender.the_row Builtin.unit the_global.the_row TheImpl.ghosts)
bell_send =
    sender.the_send Builtin.unit the_global.the_row TheImpl.ghosts (plain_send _ _ _ _ _) global.the_send global.the_sync heap.the_frees

box_send : IsSend (a_sender.the_row an_offer.the_row the_global.the_row TheImpl.ghosts)
box_send = sender.the_send an_offer.the_row the_global.the_row TheImpl.ghosts offer.the_send global.the_send global.the_sync heap.the_frees

box_sync : IsSync (a_sender.the_row an_offer.the_row the_global.the_row TheImpl.ghosts)
box_sync = sender.the_sync an_offer.the_row the_global.the_row TheImpl.ghosts offer.the_send global.the_send global.the_sync heap.the_frees

ended_sync : IsSync (a_receiver.the_row Builtin.unit the_global.the_row TheImpl.ghosts)
ended_sync =
    receiver.the_sync Builtin.unit the_global.the_row TheImpl.ghosts (plain_send _ _ _ _ _) global.the_send global.the_sync heap.the_frees

marks_send : IsSend (a_vec.the_row a_flag.the_row the_global.the_row TheImpl.ghosts)
marks_send = vec.the_send a_flag.the_row the_global.the_row TheImpl.ghosts flag.the_send global.the_send heap.the_frees

marks_sync : IsSync (a_vec.the_row a_flag.the_row the_global.the_row TheImpl.ghosts)
marks_sync = vec.the_sync a_flag.the_row the_global.the_row TheImpl.ghosts flag.the_sync global.the_sync

desk_send : IsSend desk.the_row
desk_send = recorded_send (desk.the_field).row _ _ (desk.the_type).to_one
    (struct_send (shape desk.the_type) (
      search (book_send, Crossing.crosses, TheKnot.crosses, sendable) depth 60 fits 20000,
      (
        search (worker.the_send, Crossing.crosses, sendable) depth 60 fits 20000,
        (box_send, (number.the_send, (number.the_send, (number.the_send, (number.the_send, (flag.the_field_send, (flag.the_field_send, (flag.the_field_send, (marks_send, tt))))))))),
      ),
    ))

desk_sync : IsSync desk.the_row
desk_sync = recorded_sync (desk.the_field).row _ _ (desk.the_type).to_one
    (struct_sync (shape desk.the_type) (
      search (book_send, Crossing.crosses, TheKnot.crosses, sendable) depth 60 fits 20000,
      (
        search (worker.the_send, Crossing.crosses, sendable) depth 60 fits 20000,
        (box_sync, (number.the_sync, (number.the_sync, (number.the_sync, (number.the_sync, (flag.the_field_sync, (flag.the_field_sync, (flag.the_field_sync, (marks_sync, tt))))))))),
      ),
    ))

module _ (G : RattleType) where
  shared_send : IsSend G → IsSend (shared.the_row G)
  shared_send send = recorded_send (shared.the_field G).row _ _ (shared.the_type G).to_one
      (struct_send (shape (shared.the_type G)) (
        vec.the_send a_name.the_row the_global.the_row TheImpl.ghosts name.the_send global.the_send heap.the_frees,
        (
          vec.the_send desk.the_row the_global.the_row TheImpl.ghosts desk_send global.the_send heap.the_frees,
          (flag.the_field_send, (number.the_send, (number.the_send, (send, tt)))),
        ),
      ))

  shared_sync : IsSync G → IsSync (shared.the_row G)
  shared_sync sync = recorded_sync (shared.the_field G).row _ _ (shared.the_type G).to_one
      (struct_sync (shape (shared.the_type G)) (
        vec.the_sync a_name.the_row the_global.the_row TheImpl.ghosts name.the_sync global.the_sync,
        (
          vec.the_sync desk.the_row the_global.the_row TheImpl.ghosts desk_sync global.the_sync,
          (flag.the_field_sync, (number.the_sync, (number.the_sync, (sync, tt)))),
        ),
      ))

  pub arc_send : IsSend G → IsSync G → IsSend (an_arc.the_row (shared.the_row G) the_global.the_row TheImpl.ghosts)
  arc_send send sync =
      arc.the_send (shared.the_row G) the_global.the_row TheImpl.ghosts (shared_send send) global.the_send
      (shared_sync sync) global.the_sync heap.the_frees

  pub arc_sync : IsSend G → IsSync G → IsSync (an_arc.the_row (shared.the_row G) the_global.the_row TheImpl.ghosts)
  arc_sync send sync =
      arc.the_sync (shared.the_row G) the_global.the_row TheImpl.ghosts (shared_send send) global.the_send
      (shared_sync sync) global.the_sync heap.the_frees

  running_sync : IsSend G → IsSync G → IsSync (running.the_field G).row
  running_sync send sync = struct_sync (shape (running.the_type G)) (arc_sync send sync, tt)

  -- any thread may call the nodes by a reference to their cluster
  pub cluster_sync : IsSend G → IsSync G → IsSync (cluster.the_row G)
  cluster_sync send sync = recorded_sync (cluster.the_field G).row _ _ (cluster.the_type G).to_one
      (struct_sync (shape (cluster.the_type G)) (
        global.the_field_sync,
        (
          search (name.the_sync, setup.the_sync, Crossing.crosses, sendable) depth 60 fits 20000,
          (running_sync send sync, (plain_sync _ _ _ _ _, (ended_sync, tt))),
        ),
      ))
