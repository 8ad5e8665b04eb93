use Rattle.std.proofs.Common.{◌≡◌, ◌&&◌, ◌+◌, Bool, true, false, ap, drop, rules, sym, ◌∙◌}
use Rattle.script_explorer.proofs.Alike.{next_script}
use Rattle.script_explorer.specs.Common.{all_have, has_line}
use Rattle.script_explorer.proofs.common.all_have.Goals as goal

pub returns-then-not-has_line : goal.returns-then-not-has_line
returns-then-not-has_line c =
    let line = c.args.line.now in
    let scripts = c.args.scripts.now in
    let i = c.loop-script.script-index in
    let script = c.script-item.result in
    let next = next_script c.args.place line scripts i script c.loop-script-test.true c.script-item.is in
    let no : has_line c.args.place line script.now ≡ false = search rules in
    sym (sym c.loop-script.invariant ∙ next ∙ ap (λ (b : Bool). b && all_have c.args.place line (drop (i + 1) scripts)) no)

pub loop-script-preserved : goal.loop-script-preserved
loop-script-preserved c =
    let line = c.args.line.now in
    let scripts = c.args.scripts.now in
    let i = c.loop-script.script-index in
    let script = c.script-item.result in
    let next = next_script c.args.place line scripts i script c.loop-script-test.true c.script-item.is in
    let yes : has_line c.args.place line script.now ≡ true = search rules in
    sym (next ∙ ap (λ (b : Bool). b && all_have c.args.place line (drop (i + 1) scripts)) yes) ∙ c.loop-script.invariant
