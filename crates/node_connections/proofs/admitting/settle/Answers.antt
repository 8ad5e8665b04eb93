use Rattle.std.proofs.Common.{◌≡◌, true, refl, rules, sym, subst}
use Rattle.conn_core.specs.declared.standing.Standing.TheVariants as standing
use Rattle.dist_model.specs.Handshake.{with_side}
use Rattle.dist_model.specs.Work.{Work}
use Rattle.erl_handshake.specs.declared.acceptor.AcceptorState.TheVariants as acceptor
use Rattle.node_connections.proofs.Named.{sent_after}
use Rattle.node_connections.specs.Admitted.{named_side, sends_challenge}
use Rattle.node_plan.specs.Carried.{MakesOr}
use Rattle.node_plan.specs.Seen.{seen}
use Rattle.node_tables.specs.Standings.{standing_side}
use Rattle.node_connections.proofs.admitting.settle.Goals as goal

pub returns-then-sends_challenge-clause-makes : goal.returns-then-sends_challenge-clause-makes
returns-then-sends_challenge-clause-makes c = λ work none h.
    let m = seen c.args.node.now in
    let side = c.args.side.now in
    let sends : sends_challenge c.args.status ≡ true = search rules in
    let set =
    with_side side.trunk (standing_side side.peer (standing.Accepting (acceptor.AwaitsReply c.args.challenge c.args.introduction))) work in
    let P : Work → Type 0 = λ o. MakesOr m o c.write_challenge.new.plan c.write_challenge.result in
    subst P (sym (sent_after c.args.status side.trunk (named_side side c.args.introduction) c.args.challenge work sends))
    (c.write_challenge.ensures.makes set (c.in_ok-add.ensures.makes m work none (refl, refl) h))
