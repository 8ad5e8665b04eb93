use Rattle.node_lock.proofs.OutletMoves.{both_keep, flushed_keeps}
use Rattle.node_lock.proofs.PutAtOutlet.{none_put_err, one_put, still}
use Rattle.node_lock.proofs.outlet.Outlet.put_one.Goals as goal

pub returns : goal.returns
returns g c =
    let e = c.flush.ensures in
    let es = c.args.entries.now in
    let old = c.args.self.now in
    let mid = c.stage.new.self in
    let port = c.flush.new.self in
    let staged = c.stage.ensures in
    record {
      feeds = both_keep es old mid (record mid { port = port }) staged.feeds
          (flushed_keeps c.ports_shift.ensures.flush es mid port c.flush.result e.put e.unchanged e.err);
      puts = one_put es old mid port staged.puts c.flush.result e.put e.some;
      still = still es old mid port staged.puts c.flush.result (c.in_ok-stage.ensures.ready) e.unchanged e.full;
      err = none_put_err es old mid port staged.puts c.flush.result e.err;
    }
