use Rattle.std.proofs.Common.{◌≡◌, ◌++◌, ◌∷◌, sym, ap, ◌∙◌}
use Rattle.std.specs.List.{last_or}
use Rattle.std.specs.Option.{option_copied}
use Rattle.sorted_map.specs.Sides.{items_of}
use Rattle.sorted_map.proofs.Parted.{last_behind}
use Rattle.sorted_map.proofs.nodes.last_within.Goals as goal

pub loop-below-preserved : goal.loop-below-preserved
loop-below-preserved g c =
    let found = option_copied c.loop-below.found in
    let node = c.deref-in-Some.inside in
    let left = items_of node.left in
    let right = items_of node.right in
    let whole : left ++ node.item ∷ right ≡ items_of c.loop-below.below.now =
    c.deref-in-Some.view_is ∙ c.deref.ensures ∙ sym (ap items_of c.in-Some.is) in
    sym (last_behind found left node.item right) ∙ ap (last_or found) whole ∙ c.loop-below.invariant
