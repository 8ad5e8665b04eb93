use Rattle.std.proofs.Common.{sym, ap, ◌∙◌}
use Rattle.std.specs.Option.{option_copied}
use Rattle.sorted_map.specs.Sides.{items_of}
use Rattle.sorted_map.proofs.Parted.{found_right, found_left}
use Rattle.sorted_map.proofs.nodes.first_from.Goals as goal

pub loop-below-preserved-then-is_lt : goal.loop-below-preserved-then-is_lt
loop-below-preserved-then-is_lt g c order answers parted =
    let whole = c.deref-in-Some.view_is ∙ c.deref.ensures ∙ sym (ap items_of c.in-Some.is) in
    let so_far = c.loop-below.invariant order answers parted in
    let next =
    found_right order _ _ _ _ _ whole (c.compared.ensures order answers) so_far.0 (option_copied c.loop-below.found) (sym c.if-is_lt.ensures) in
    (next.0, next.1 ∙ so_far.1)

pub loop-below-preserved : goal.loop-below-preserved
loop-below-preserved g c order answers parted =
    let whole = c.deref-in-Some.view_is ∙ c.deref.ensures ∙ sym (ap items_of c.in-Some.is) in
    let so_far = c.loop-below.invariant order answers parted in
    let next =
    found_left order _ _ _ _ _ whole (c.compared.ensures order answers) so_far.0 (option_copied c.loop-below.found) (sym c.if-is_lt.ensures) in
    (next.0, next.1 ∙ so_far.1)
