use Rattle.node_connections.proofs.Began.{link_is}
use Rattle.node_connections.proofs.records.first_link.Goals as goal

pub returns : goal.returns
returns c =
    let it = c.args.node.now.incarnation in
    let r = c.first_link_towards.ensures in
    link_is it.mint it.held.items c.args.peer.now c.args.after c.first_link_towards.result c.requires.none r.found r.towards r.least r.none
