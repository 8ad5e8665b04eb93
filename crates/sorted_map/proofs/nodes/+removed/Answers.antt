use Rattle.std.proofs.Common.{Some, sym, ap, ◌∙◌}
use Rattle.sorted_map.specs.Sides.{items_of}
use Rattle.sorted_map.proofs.Parted.{removed_right, removed_left, removed_here, removed_nowhere}
use Rattle.sorted_map.proofs.nodes.+removed.Goals as goal

pub returns-then-is_lt : goal.returns-then-is_lt
returns-then-is_lt g t c order answers parted =
    let whole = c.opened-parts.ensures ∙ sym (ap items_of c.in-Some.is) in
    let done =
    removed_right order _ _ _ _ _ whole (c.compared-order.ensures order answers) parted _ _ (sym c.if-is_lt.ensures)
    (c.removed-right.ensures order answers) in
    (c.balanced.ensures ∙ done.0, done.1)

pub returns-in-Some-found : goal.returns-in-Some-found
returns-in-Some-found g t c order answers parted =
    let whole = c.opened-parts.ensures ∙ sym (ap items_of c.in-Some.is) in
    let done =
    removed_left order _ _ _ _ _ whole (c.compared-order.ensures order answers) parted _ _ c.in-Some-found.item c.in-Some-found.is
    (c.removed-left.ensures order answers) in
    (c.balanced-in-Some-found.ensures ∙ done.0, done.1)

pub returns-then-is_eq : goal.returns-then-is_eq
returns-then-is_eq g t c order answers parted =
    let whole = c.opened-parts.ensures ∙ sym (ap items_of c.in-Some.is) in
    let done =
    removed_here order _ _ _ _ _ whole (c.compared-order.ensures order answers) parted _ _ c.in_default-found.is
    (sym c.if-is_eq.ensures) (c.removed-left.ensures order answers) in
    (c.joined-rest.ensures.sides ∙ done.0, ap Some c.joined-rest.ensures.item ∙ done.1)

pub returns : goal.returns
returns g t c order answers parted =
    let whole = c.opened-parts.ensures ∙ sym (ap items_of c.in-Some.is) in
    let done =
    removed_nowhere order _ _ _ _ _ whole (c.compared-order.ensures order answers) parted _ _ c.in_default-found.is
    (sym c.if-is_lt.ensures) (sym c.if-is_eq.ensures) (c.removed-left.ensures order answers) in
    (c.balanced-2.ensures ∙ done.0, done.1)
