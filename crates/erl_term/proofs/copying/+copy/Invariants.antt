use Rattle.std.proofs.Common.{◌≡◌}
use Rattle.std.specs.Prelude.{map, take}
use Rattle.erl_term.specs.View.{view}
use Rattle.erl_term.proofs.copying.+copy.Given as goal

abbrev pub invariant-copies_of-loop-item : goal.invariant-copies_of-loop-item
invariant-copies_of-loop-item l = map view l.copies.items ≡ map view (take l.item-index l.items)
