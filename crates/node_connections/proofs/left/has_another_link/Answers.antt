use Rattle.node_connections.proofs.Behind.{beside_by, behind_by}
use Rattle.node_connections.proofs.left.has_another_link.Goals as goal

pub returns-then-has_link_behind : goal.returns-then-has_link_behind
returns-then-has_link_behind c =
    let it = c.args.node.now.incarnation in
    beside_by it.mint it.held.items c.args.peer.now c.args.link.now c.requires.first c.args.process.now c.requires.process
    c.has_link_behind.result c.if-has_link_behind.true (c.has_link_behind.ensures.has c.if-has_link_behind.true)

pub returns-else-has_link_behind : goal.returns-else-has_link_behind
returns-else-has_link_behind c =
    let it = c.args.node.now.incarnation in
    let r = c.first_link_towards.ensures in
    behind_by it.mint it.held.items c.args.peer.now c.args.link.now c.requires.first c.args.process.now c.requires.process
    (c.has_link_behind.ensures.none c.if-has_link_behind.false) c.first_link_towards.result c.is_some.result c.is_some.ensures
    r.found r.towards r.behind r.none
