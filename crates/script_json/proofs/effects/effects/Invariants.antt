use Rattle.std.proofs.Common.{map, take}
use Rattle.script_json.specs.Reports.{AreEffects}
use Rattle.serde_json.specs.View.{view}
use Rattle.script_json.proofs.effects.effects.Given as goal

abbrev pub invariant-loop-brought : goal.invariant-loop-brought
invariant-loop-brought l = AreEffects (take l.brought-index l.effects) (map view l.all.items)
