use Rattle.std.proofs.Common.{sym, ap, ◌∙◌}
use Rattle.sorted_map.specs.Sides.{items_of}
use Rattle.sorted_map.proofs.Parted.{inserted_left, inserted_right}
use Rattle.sorted_map.proofs.nodes.+inserted.Goals as goal

pub returns-then-is_lt : goal.returns-then-is_lt
returns-then-is_lt g t c order answers parted =
    let whole = c.opened-parts.ensures ∙ sym (ap items_of c.in-Some.is) in
    c.balanced.ensures
    ∙ inserted_right order _ _ _ _ _ whole (c.compared_to.ensures order answers) parted c.args.item _ (sym c.if-is_lt.ensures)
    (c.inserted.ensures order answers)

pub returns : goal.returns
returns g t c order answers parted =
    let whole = c.opened-parts.ensures ∙ sym (ap items_of c.in-Some.is) in
    c.balanced-2.ensures
    ∙ inserted_left order _ _ _ _ _ whole (c.compared_to.ensures order answers) parted c.args.item _ (sym c.if-is_lt.ensures)
    (c.inserted-2.ensures order answers)
