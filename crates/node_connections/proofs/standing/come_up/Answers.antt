use Rattle.std.proofs.Common.{◌≡◌, rules, sym, ap, ◌∙◌, subst}
use Rattle.dist_model.specs.Work.{Work}
use Rattle.erl_names.specs.declared.trunk.TrunkId.{TrunkId}
use Rattle.node_connections.proofs.Stood.{comes_up}
use Rattle.node_plan.specs.Suits.{Lets}
use Rattle.node_plan.specs.Carried.{MakesOr, sided}
use Rattle.node_tables.specs.declared.change.SideChange.TheVariants as change
use Rattle.dist_model.specs.Names.{Name}
use Rattle.node_connections.proofs.standing.come_up.Goals as goal

pub returns-clause-makes : goal.returns-clause-makes
returns-clause-makes c = λ m work t alone there h.
    let own = c.in_ok-trunk.trunk in
    let from : own ≡ c.args.side.now.trunk = search rules in
    let to : c.in_ok-peer.peer ≡ c.args.side.now.peer = search rules in
    let P : TrunkId → Name → Type 0 = λ u y. Lets (change.ComesUp u y c.args.introduction) work.node.sides in
    let lets : P own c.in_ok-peer.peer =
    subst (λ u. P u c.in_ok-peer.peer) (sym from) (subst (P c.args.side.now.trunk) (sym to) (t, alone, there)) in
    let Q : Work → Type 0 = λ w. MakesOr m w c.change_side.new.self c.change_side.result in
    subst Q (ap (λ u. sided (change.ComesUp u c.in_ok-peer.peer c.args.introduction) work) from
    ∙ comes_up c.args.side.now.trunk c.in_ok-peer.peer c.args.side.now.peer c.args.introduction work t)
    (c.change_side.ensures.makes m work lets h)
