use Rattle.node_lock.proofs.OutletMoves.{nothing_keeps, piece_at, same_keeps, staged_at}
use Rattle.node_lock.proofs.PutAtOutlet.{puts_none, puts_past_at, puts_same, puts_staged_at, some_waits, staged_waits}
use Rattle.node_lock.proofs.outlet.Outlet.stage.Goals as goal

pub parcel-requires : goal.parcel-requires
parcel-requires c =
    piece_at c.args.entries.now c.args.self.now c.trunk.result.now c.peer.result.now c.trunk.ensures c.peer.ensures
    c.in-Some.next.stamp c.in-Some.next.frame.now _ c.requires c.in-Some.ensures.some

pub returns-in_err-parcel-in-Some-clause-feeds : goal.returns-in_err-parcel-in-Some-clause-feeds
returns-in_err-parcel-in-Some-clause-feeds c = nothing_keeps c.args.entries.now c.args.self.now

pub returns-in_err-parcel-in-Some-clause-puts : goal.returns-in_err-parcel-in-Some-clause-puts
returns-in_err-parcel-in-Some-clause-puts c = puts_none c.args.entries.now c.args.self.now

pub returns-in_err-send-in-Some-clause-feeds : goal.returns-in_err-send-in-Some-clause-feeds
returns-in_err-send-in-Some-clause-feeds c = same_keeps c.args.entries.now c.args.self.now c.send.new.self c.in_err-send-in-Some.ensures.err

pub returns-in_err-send-in-Some-clause-puts : goal.returns-in_err-send-in-Some-clause-puts
returns-in_err-send-in-Some-clause-puts c = puts_same c.args.entries.now c.args.self.now c.send.new.self c.in_err-send-in-Some.ensures.err

pub returns-in_ok-send-in-Some : goal.returns-in_ok-send-in-Some
returns-in_ok-send-in-Some c = record {
  feeds = staged_at c.args.entries.now c.args.self.now c.trunk.result.now c.peer.result.now c.trunk.ensures c.peer.ensures
      c.send.new.self c.in_ok-parcel-in-Some.parcel c.in-Some.next.stamp c.in-Some.next.frame.now c.in-Some.next.entry
      c.in-Some.next.effects
      c.in-Some.ensures.some c.in_ok-parcel-in-Some.ensures.stamp c.in_ok-parcel-in-Some.ensures.bytes
      c.in-Some.ensures.within c.in_ok-send-in-Some.ensures.ok;
  puts = puts_staged_at c.args.entries.now c.args.self.now c.trunk.result.now c.peer.result.now c.trunk.ensures c.peer.ensures
      c.is_idle.ensures.begun
      c.send.new.self c.in_ok-parcel-in-Some.parcel c.in-Some.next.stamp c.in-Some.next.frame.now c.in-Some.next.entry
      c.in-Some.next.effects
      c.in-Some.ensures.some c.in_ok-parcel-in-Some.ensures.stamp c.in_ok-parcel-in-Some.ensures.bytes c.in_ok-send-in-Some.ensures.ok;
  ready =
      λ empty. absurd (staged_waits c.args.self.now c.send.new.self c.in_ok-parcel-in-Some.parcel c.in_ok-send-in-Some.ensures.ok empty);
}

pub returns-then-not-is_idle : goal.returns-then-not-is_idle
returns-then-not-is_idle c = record {
  feeds = nothing_keeps c.args.entries.now c.args.self.now;
  puts = puts_none c.args.entries.now c.args.self.now;
  ready = λ empty. absurd (some_waits c.args.self.now.port.outbox c.is_idle.result c.is_idle.ensures.idle c.if-not-is_idle.true empty);
}

pub returns-in-None-clause-puts : goal.returns-in-None-clause-puts
returns-in-None-clause-puts c =
    puts_past_at c.args.entries.now c.args.self.now c.trunk.result.now c.peer.result.now c.trunk.ensures c.peer.ensures
    c.in-None.ensures.none
