use Rattle.std.proofs.Common.{ap, slice_index_or, sym}
use Rattle.joined_books.proofs.AllPlaces.{place_next}
use Rattle.node_history.specs.declared.entry.Entry.{Entry}
use Rattle.joined_books.proofs.order.push_places.Goals as goal

pub loop-position-preserved : goal.loop-position-preserved
loop-position-preserved c =
    let entry = c.index-entries-position.result in
    place_next c.args.node c.args.placed.now.items c.loop-position.placed.items c.push.new.self.items c.args.entries.now
    c.loop-position.position
    entry (slice_index_or c.args.entries.now c.loop-position.position entry).stamp c.loop-position-test.true c.index-entries-position.is
    (ap (λ (e : Entry). e.stamp) (sym c.index-entries-position.is)) c.loop-position.invariant c.in_ok-push.ensures.items
