use Rattle.std.proofs.Common.{◌≡◌, drop}
use Rattle.script_explorer.specs.Common.{all_have}
use Rattle.script_explorer.proofs.common.all_have.Given as goal

abbrev pub invariant-loop-script : goal.invariant-loop-script
invariant-loop-script l = all_have l.place l.line (drop l.script-index l.scripts) ≡ all_have l.place l.line l.scripts
