use Rattle.std.proofs.Common.{◌≡◌, rules, sym, ap, ◌∙◌, subst}
use Rattle.dist_model.specs.Work.{Work}
use Rattle.erl_names.specs.declared.trunk.TrunkId.{TrunkId}
use Rattle.node_connections.proofs.Stood.{stands}
use Rattle.node_plan.specs.Suits.{Lets}
use Rattle.node_plan.specs.Carried.{MakesOr, sided}
use Rattle.node_tables.specs.declared.change.SideChange.TheVariants as change
use Rattle.node_connections.proofs.standing.stand_down.Goals as goal

pub returns-clause-makes : goal.returns-clause-makes
returns-clause-makes c = λ m work down towards stays h.
    let own = c.in_ok-trunk.trunk in
    let from : own ≡ c.args.side.now.trunk = search rules in
    let P : TrunkId → Type 0 = λ u. Lets (change.Stands u c.args.standing) work.node.sides in
    let lets : P own = subst P (sym from) (down, stays) in
    let Q : Work → Type 0 = λ w. MakesOr m w c.change_side.new.self c.change_side.result in
    subst Q (ap (λ u. sided (change.Stands u c.args.standing) work) from
    ∙ stands c.args.side.now.trunk c.args.standing c.args.side.now.peer work towards)
    (c.change_side.ensures.makes m work lets h)
