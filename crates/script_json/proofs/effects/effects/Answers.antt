use Rattle.std.proofs.Common.{map}
use Rattle.serde_json.proofs.Views.{view-Array}
use Rattle.serde_json.specs.View.{view}
use Rattle.script_json.proofs.Told.{told_all, told_next}
use Rattle.script_json.proofs.effects.effects.Goals as goal

pub loop-brought-preserved : goal.loop-brought-preserved
loop-brought-preserved c =
    told_next c.args.effects.now c.loop-brought.all.items c.push.new.self.items c.in_ok-effect.field-0 c.loop-brought.brought-index
    c.brought-item.result c.loop-brought-test.true c.brought-item.is c.in_ok-push.ensures.items c.loop-brought.invariant
    c.in_ok-effect.ensures

pub returns : goal.returns
returns c =
    let all = map view c.loop-brought.all.items in
    (all, told_all c.args.effects.now all c.loop-brought.brought-index c.loop-brought-test.false c.loop-brought.invariant, view-Array c.loop-brought.all)
