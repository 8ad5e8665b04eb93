use Rattle.std.proofs.Common.{◌≡◌, sym, ap, subst, ◌∙◌, refl}
use Rattle.std.specs.FinMap as fm
use Rattle.dist_model.specs.Handshake.{set_state, with_side}
use Rattle.dist_model.specs.Sides as model
use Rattle.dist_model.specs.Sides.{TrunkSide}
use Rattle.dist_model.specs.declared.report.Answer.{Answer}
use Rattle.conn_core.specs.Side.{lost}
use Rattle.node_connections.proofs.Stood.{lost_down, lost_stands, lost_stays, towards}
use Rattle.node_plan.proofs.Outcomes.{made_by}
use Rattle.node_plan.specs.Carried.{MakesOr}
use Rattle.node_tables.specs.Changes.{IsDown, StaysGone}
use Rattle.node_tables.specs.Standings.{side_of, standing_side, state_of}
use Rattle.node_connections.proofs.losing.break_side.Goals as goal

pub returns : goal.returns
returns c = λ m work there h.
    let side = c.args.side.now in
    let t = side.trunk in
    let Q : TrunkSide → Type 0 = λ s. MakesOr m (with_side t s work) c.stand_down.new.plan c.stand_down.result in
    let is : c.lost.result ≡ lost side.standing = c.lost.ensures in
    rw c.or_refuse.ensures (made_by m _ (Answer.Broken c.args.why)
    (set_state t (side_of side) (model.lost (state_of side.standing)) work) c.stand_down.new.plan c.stand_down.result
    refl (c.stand_down.ensures.told m ∙ c.answers.ensures.told m)
    (subst Q (ap (standing_side side.peer) is ∙ lost_stands side.peer side.standing c.requires.settled)
    (c.stand_down.ensures.makes m work (subst IsDown (sym is) (lost_down side.standing))
    (towards work.node.sides t (side_of side) there)
    (subst (λ st. StaysGone st (fm.get work.node.sides t)) (sym is)
    (lost_stays work.node.sides t side.peer side.standing c.requires.settled there)) (c.answers.ensures.makes m work h))))
