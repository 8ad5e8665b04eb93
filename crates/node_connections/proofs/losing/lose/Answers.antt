use Rattle.std.proofs.Common.{◌≡◌, true, false, Some, rules, sym, ap, subst, ◌∙◌}
use Rattle.std.specs.FinMap as fm
use Rattle.conn_core.specs.Side.{is_live, lost, state_of as name_of}
use Rattle.dist_model.specs.Handshake.{set_state, with_side}
use Rattle.dist_model.specs.Losses.{lose}
use Rattle.dist_model.specs.Sides as model
use Rattle.dist_model.specs.Sides.{TrunkSide, in_state, is_gone}
use Rattle.dist_model.specs.Work.{at_work}
use Rattle.dist_model.specs.declared.report.Answer.{Answer}
use Rattle.erl_names.specs.declared.trunk.TrunkId.{TrunkId}
use Rattle.node_connections.proofs.Stood.{live_there, loses, lost_down, lost_stands, lost_stays, towards}
use Rattle.node_plan.proofs.Outcomes.{made_by}
use Rattle.node_plan.specs.Carried.{MakesOr}
use Rattle.node_plan.specs.Seen.{seen}
use Rattle.node_tables.specs.Changes.{IsDown, StaysGone}
use Rattle.node_tables.specs.Standings.{is_settled, side_of, standing_side, state_of}
use Rattle.node_connections.proofs.losing.lose.Goals as goal

pub returns : goal.returns
returns c =
    let m = seen c.args.node.now in
    let t = c.args.trunk.now in
    let side = c.in-Some.side.now in
    let there : fm.get m.sides t ≡ Some (side_of side) = search rules in
    let settled : is_settled side.standing ≡ true = search rules in
    let live : is_live (name_of side.standing) ≡ true = search rules in
    let left = live_there side.standing settled live in
    let own : is_gone (state_of side.standing) ≡ false → side.trunk ≡ t = search rules in
    let same : side.trunk ≡ t = own left in
    let here : fm.get m.sides side.trunk ≡ Some (side_of side) = ap (fm.get m.sides) same ∙ there in
    let set = set_state t (side_of side) (model.lost (state_of side.standing)) (at_work m) in
    let is : c.lost.result ≡ lost side.standing = c.lost.ensures in
    let Q : TrunkId → TrunkSide → Type 0 = λ u s. MakesOr m (with_side u s (at_work m)) c.stand_down.new.plan c.stand_down.result in
    rw c.or_refuse.ensures (made_by m _ Answer.Done set c.stand_down.new.plan c.stand_down.result
    (ap (lose m t) there ∙ loses side.standing t (side_of side) (at_work m) settled live)
    (c.stand_down.ensures.told m ∙ c.requires.told)
    (subst (λ u. Q u (in_state (model.lost (state_of side.standing)) (side_of side))) same
    (subst (Q side.trunk) (ap (standing_side side.peer) is ∙ lost_stands side.peer side.standing settled)
    (c.stand_down.ensures.makes m (at_work m) (subst IsDown (sym is) (lost_down side.standing))
    (towards m.sides side.trunk (side_of side) here)
    (subst (λ st. StaysGone st (fm.get m.sides side.trunk)) (sym is)
    (lost_stays m.sides side.trunk side.peer side.standing settled here)) c.requires.makes))))
