use Rattle.std.proofs.Common.{◌≡◌, ◌++◌, map, string_bytes}
use Rattle.script_explorer.proofs.headings.add_lines.Given as goal

abbrev pub invariant-loop-line : goal.invariant-loop-line
invariant-loop-line l = map string_bytes l.lines.items ≡ map string_bytes l.fn.lines.items ++ map (λ line. line.now) l.yielded
