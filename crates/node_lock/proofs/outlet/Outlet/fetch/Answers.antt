use Rattle.std.proofs.Common.{ap}
use Rattle.node_lock.proofs.OutletMoves.{fetched_keeps}
use Rattle.node_lock.proofs.PutAtOutlet.{taken_one, unchanged_err}
use Rattle.wire_core.specs.Ports.{PortSeen}
use Rattle.node_lock.proofs.outlet.Outlet.fetch.Goals as goal

pub returns : goal.returns
returns g c =
    let e = c.fetch.ensures in
    let old = c.args.self.now in
    let port = c.fetch.new.self in
    record {
      feeds = fetched_keeps c.ports_shift.ensures.fetch c.args.entries.now old port c.fetch.result e.taken e.unchanged e.err;
      takes = taken_one old port c.fetch.result e.taken e.one;
      unchanged = λ is. ap (λ (p : PortSeen). record old { port = p }) (e.unchanged is);
      err = unchanged_err old port c.fetch.result e.err;
    }
