use Rattle.std.proofs.Common.{◌≡◌, ◌++◌, map, string_bytes, take}
use Rattle.std.specs.List.{flat_map}
use Rattle.std.specs.Str.Lines.{lines as lines_of}
use Rattle.script_explorer.proofs.headings.add_all_lines.Given as goal

abbrev pub invariant-loop-text : goal.invariant-loop-text
invariant-loop-text l =
    map string_bytes l.lines.items ≡ map string_bytes l.fn.lines.items ++ flat_map lines_of (map string_bytes (take l.text-index l.texts))
