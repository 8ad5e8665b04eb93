use Rattle.std.proofs.Common.{◌≡◌, true, All, take}
use Rattle.erl_term.specs.Canonical.{is_byte}
use Rattle.erl_term.specs.View.{view}
use Rattle.erl_term.proofs.lists.is_string.Given as goal

abbrev pub invariant-loop-item : goal.invariant-loop-item
invariant-loop-item l = All (λ t. is_byte (view t) ≡ true) (take l.item-index l.items)
