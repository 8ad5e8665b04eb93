use Rattle.std.proofs.Common.{◌≡◌, ℕ, suc, ◌+◌, List, ◌∷◌, length, sym, ap, subst, ◌∙◌, rules, arith}
use Rattle.node_plan.specs.Suits.{LetsAll}
use Rattle.node_plan.specs.Changed.{sides_after}
use Rattle.node_tables.specs.Changes.{routes_added, sides_added}
use Rattle.node_tables.specs.Sides.{HasRouteRoom, HasSideRoom, sides}
use Rattle.node_tables.specs.declared.change.SideChange.{SideChange}
use Rattle.node_tables.specs.declared.change.SideChange.TheVariants as side
use Rattle.node_tables.specs.declared.sides.Sides.{Sides}
use Rattle.node_plan.proofs.sides.change_sides.Goals as goal

side_left : (change : SideChange) (n : ℕ) (it : Sides) → HasSideRoom (suc n) it → HasSideRoom (sides_added change + n) it
side_left (side.Adds new) n it h = omega (arith, h)
side_left _ n it h = omega (arith, h)

route_left : (change : SideChange) (n : ℕ) (it : Sides) → HasRouteRoom (suc n) it → HasRouteRoom (routes_added change + n) it
route_left (side.Adds new) n it h = omega (arith, h)
route_left _ n it h = omega (arith, h)

pub loop-change-preserved : goal.loop-change-preserved
loop-change-preserved c =
    let before = c.loop-change.sides in
    let change = c.in-Some.change in
    let rest = c.next.new.self.rest.items in
    let first : c.loop-change.change-iterator.rest.items ≡ change ∷ rest = search rules in
    let lets = (let P : List SideChange → Type 0 = (λ xs. LetsAll xs (sides before)) in subst P first c.loop-change.invariant.lets) in
    let P : List SideChange → Type 0 = (λ xs. HasSideRoom (length xs) before) in
    let Q : List SideChange → Type 0 = (λ xs. HasRouteRoom (length xs) before) in
    record {
      lets = subst (LetsAll rest) (sym c.make.ensures.sides) lets.1;
      side_room =
          c.make.ensures.side_room (length rest) (side_left change (length rest) before (subst P first c.loop-change.invariant.side_room));
      route_room = c.make.ensures.route_room (length rest)
          (route_left change (length rest) before (subst Q first c.loop-change.invariant.route_room));
      leads =
          ap (sides_after rest) c.make.ensures.sides ∙ ap (λ xs. sides_after xs (sides before)) (sym first) ∙ c.loop-change.invariant.leads;
    }
