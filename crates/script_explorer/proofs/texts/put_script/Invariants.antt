use Rattle.std.proofs.Common.{◌≡◌, ◌++◌, map, take}
use Rattle.script_explorer.specs.Texts.{script_text}
use Rattle.script_explorer.proofs.texts.put_script.Given as goal

abbrev pub invariant-loop-line : goal.invariant-loop-line
invariant-loop-line l = l.out.items ≡ l.initial.out.items ++ script_text (map (λ line. line.items) (take l.line-index l.lines))
