use Rattle.std.proofs.Common.{All, take}
use Rattle.erl_term.specs.Canonical.{IsInRange}
use Rattle.erl_term.specs.View.{view}
use Rattle.erl_term.proofs.profile.+range.Given as goal

abbrev pub invariant-are_in_range-loop-item : goal.invariant-are_in_range-loop-item
invariant-are_in_range-loop-item l = All (λ t. IsInRange (view t)) (take l.item-index l.items)
