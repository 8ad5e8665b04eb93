use Rattle.std.proofs.Common.{◌≡◌, take}
use Rattle.node_history.proofs.copying.copied_effects.Given as goal

abbrev pub invariant-loop-effect : goal.invariant-loop-effect
invariant-loop-effect l = l.copies.items ≡ take l.effect-index l.effects
