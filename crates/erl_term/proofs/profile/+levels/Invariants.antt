use Rattle.std.proofs.Common.{All, take, ◌≤◌}
use Rattle.erl_term.specs.Canonical.{levels_of}
use Rattle.erl_term.specs.View.{view}
use Rattle.erl_term.proofs.profile.+levels.Given as goal

abbrev pub invariant-have_levels-loop-item : goal.invariant-have_levels-loop-item
invariant-have_levels-loop-item l = All (λ t. levels_of (view t) ≤ l.levels) (take l.item-index l.items)
