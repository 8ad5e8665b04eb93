use Rattle.std.proofs.Common.{◌≡◌, Some, true, refl, rules, sym, ap, subst, ◌∙◌}
use Rattle.std.specs.FinMap as fm
use Rattle.dist_model.specs.Admission.{give_up, give_up_if}
use Rattle.dist_model.specs.Node.{side_where}
use Rattle.dist_model.specs.Work.{Work}
use Rattle.node_connections.proofs.Beside.{found_in}
use Rattle.node_connections.proofs.Stood.{towards}
use Rattle.node_plan.specs.Carried.{MakesOr}
use Rattle.node_plan.specs.Seen.{seen}
use Rattle.node_tables.specs.Passing.{passes}
use Rattle.node_tables.specs.Standings.{side_of}
use Rattle.node_connections.proofs.admitting.give_up_if.Goals as goal

pub returns-in-Some-clause-makes : goal.returns-in-Some-clause-makes
returns-in-Some-clause-makes c = λ work same h.
    let m = seen c.args.node.now in
    let y = c.args.dialer.now in
    let test = passes c.args.which in
    let other = c.in-Some.other.now in
    let ends : c.args.ends ≡ true = search rules in
    let first : side_where test y (fm.entries m.sides) ≡ Some (other.trunk, side_of other) = search rules in
    let found = found_in test y m (other.trunk, side_of other) first in
    let P : Work → Type 0 = λ o. MakesOr m o c.stand_down.new.plan c.stand_down.result in
    subst P (sym (ap (λ b. give_up_if b test y work) ends
    ∙ ap (λ sides. give_up (side_where test y (fm.entries sides)) work) (same ends) ∙ ap (λ o. give_up o work) first))
    (c.stand_down.ensures.makes m work (refl, refl)
    (towards work.node.sides other.trunk (side_of other) (ap (λ x. fm.get x other.trunk) (same ends) ∙ found.0)) (λ g. refl) h)
