use Rattle.std.proofs.Common.{ap, arith, length, set, ◌<◌, ◌∙◌}
use Rattle.node_lock.proofs.Pieces.{set_next}
use Rattle.node_lock.specs.Passing.{with_piece}
use Rattle.node_lock.specs.declared.outlet.Outlet.{Outlet}
use Rattle.wire_core.specs.Ports.{PortSeen}
use Rattle.node_lock.proofs.outlet.set_all.Goals as goal

pub loop-at-preserved : goal.loop-at-preserved
loop-at-preserved c =
    let x : Outlet = c.index_mut.result.now in
    let items = c.loop-at.outlets.items in
    let below : c.loop-at.at < length c.args.outlets.now.items = omega (arith, c.len-at-end.ensures) in
    ap (λ (p : PortSeen). set items c.loop-at.at (record x { port = p })) c.set_piece.ensures
    ∙ set_next
    (with_piece c.args.greatest.bytes) c.args.outlets.now.items items c.loop-at.at x c.loop-at.invariant below c.index_mut.ensures.value
