use Rattle.std.proofs.Common.{◌≡◌, Option, Some, sym, subst}
use Rattle.dist_model.specs.Handshake.{with_side, write_if}
use Rattle.erl_handshake.specs.declared.message.ShakeMsg.{ShakeMsg}
use Rattle.node_plan.specs.Carried.{MakesOr}
use Rattle.node_tables.specs.Standings.{standing_side}
use Rattle.node_connections.proofs.hearing.take.Goals as goal

pub returns-in-Some-clause-makes : goal.returns-in-Some-clause-makes
returns-in-Some-clause-makes c = λ m work k t a n h.
    let side = c.args.side.now in
    let set = with_side side.trunk (standing_side side.peer c.args.standing) work in
    let is : c.args.send.now ≡ Some c.in-Some.message = c.in-Some.is in
    let P : Option ShakeMsg → Type 0 = λ o. MakesOr m (write_if side.trunk side.peer o set) c.write.new.self c.write.result in
    subst P (sym is) (c.write.ensures.makes m set (c.in_ok-stand.ensures.makes m work k t a n h))
