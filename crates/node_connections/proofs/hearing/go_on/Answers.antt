use Rattle.std.proofs.Common.{◌≡◌, Some, refl, rules, sym, ap, subst, ◌∙◌}
use Rattle.std.specs.FinMap as fm
use Rattle.conn_core.specs.Side.{lost}
use Rattle.conn_core.specs.declared.standing.Standing.TheVariants as standing
use Rattle.dist_model.specs.Handshake.{set_state, with_side}
use Rattle.dist_model.specs.Node.{side_where}
use Rattle.dist_model.specs.Sides.{Losing, TrunkSide, in_state, is_up}
use Rattle.dist_model.specs.Work.{Work, at_work}
use Rattle.erl_handshake.specs.declared.acceptor.AcceptorState.TheVariants as acceptor
use Rattle.node_connections.proofs.Beside.{found_in, lost_up, parks_behind, there_kept, towards_kept}
use Rattle.node_connections.proofs.Stood.{lost_down, not_gone_up, stays, there, towards}
use Rattle.node_plan.specs.Carried.{Makes, MakesOr}
use Rattle.node_plan.specs.Seen.{seen}
use Rattle.node_tables.specs.Changes.{IsDown}
use Rattle.node_tables.specs.Standings.{side_of, standing_side}
use Rattle.node_connections.proofs.hearing.go_on.Goals as goal

pub returns-in-Some-clause-makes : goal.returns-in-Some-clause-makes
returns-in-Some-clause-makes c = λ h.
    let m = seen c.args.node.now in
    let side = c.args.side.now in
    let up = c.in-Some.up.now in
    let w = c.args.challenge in
    let s = standing_side side.peer (standing.Accepting (acceptor.AwaitsAnswer w c.args.introduction)) in
    let first : side_where is_up side.peer (fm.entries m.sides) ≡ Some (up.trunk, side_of up) = search rules in
    let found = found_in is_up side.peer m (up.trunk, side_of up) first in
    let is : c.lost.result ≡ lost up.standing = c.lost.ensures in
    let lose = set_state up.trunk (side_of up) Losing (at_work m) in
    let P : TrunkSide → Type 0 = λ v. Makes c.stand_down.new.plan m (with_side up.trunk v (at_work m)) in
    let loses : Makes c.stand_down.new.plan m lose = subst P (ap (standing_side up.peer) is ∙ lost_up up.peer up.standing found.2)
    (c.in_ok-stand_down.ensures.makes m (at_work m) (subst IsDown (sym is) (lost_down up.standing))
    (towards m.sides up.trunk (side_of up) found.0)
    (stays c.lost.result (fm.get m.sides up.trunk) (there m.sides up.trunk (side_of up) found.0 (not_gone_up _ found.2))) h) in
    let Q : Work → Type 0 = λ o. MakesOr m o c.stand_down-in-Some.new.plan c.stand_down-in-Some.result in
    subst Q (sym (parks_behind side.trunk s w m (up.trunk, side_of up) first))
    (c.stand_down-in-Some.ensures.makes m lose (refl, refl)
    (towards_kept m.sides up.trunk side.trunk (side_of up) (in_state Losing (side_of up)) side.peer found.0 refl c.requires.towards)
    (stays (standing.Accepting (acceptor.AwaitsTurn w c.args.introduction)) _
    (there_kept m.sides up.trunk side.trunk (in_state Losing (side_of up)) refl c.requires.there)) loses)
