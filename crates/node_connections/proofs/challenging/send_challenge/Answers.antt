use Rattle.std.proofs.Common.{refl}
use Rattle.conn_core.specs.declared.standing.Standing.TheVariants as standing
use Rattle.dist_model.specs.Handshake.{with_side}
use Rattle.erl_handshake.specs.declared.acceptor.AcceptorState.TheVariants as acceptor
use Rattle.node_connections.proofs.Stood.{stays}
use Rattle.node_plan.specs.Seen.{seen}
use Rattle.node_tables.specs.Standings.{standing_side}
use Rattle.node_connections.proofs.challenging.send_challenge.Goals as goal

pub returns-clause-makes : goal.returns-clause-makes
returns-clause-makes c = λ work t n h.
    let side = c.args.side.now in
    let set =
    with_side side.trunk (standing_side side.peer (standing.Accepting (acceptor.AwaitsReply c.args.challenge c.args.introduction))) work in
    c.write_challenge.ensures.makes set (c.in_ok-stand_down.ensures.makes (seen c.args.node.now) work (refl, refl) t
    (stays (standing.Accepting (acceptor.AwaitsReply c.args.challenge c.args.introduction)) _ n) h)
