use Rattle.node_connections.proofs.Behind.{parted_by}
use Rattle.node_connections.proofs.left.has_link_of_another.Goals as goal

pub returns : goal.returns
returns c =
    let it = c.args.node.now.incarnation in
    let r = c.first_link_towards.ensures in
    parted_by it.mint it.held.items c.args.peer.now c.args.link.now c.requires.first c.first_link_towards.result
    c.is_some.result c.is_some.ensures r.found r.towards r.behind r.none
