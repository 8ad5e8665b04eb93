use Rattle.joined_books.proofs.AllPlaces.{node_next}
use Rattle.joined_books.proofs.order.all_places.Goals as goal

pub loop-node-preserved : goal.loop-node-preserved
loop-node-preserved c =
    node_next c.args.books.now c.loop-node.node c.index-books-node.result c.loop-node.placed.items c.push_places.new.placed.items
    c.entries.result.now
    c.loop-node-test.true c.index-books-node.is c.loop-node.invariant c.entries.ensures c.in_ok-push_places.ensures
