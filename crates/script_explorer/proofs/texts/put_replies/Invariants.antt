use Rattle.std.proofs.Common.{◌≡◌, ◌++◌, map, string_bytes, take}
use Rattle.std.specs.List.{flat_map}
use Rattle.script_explorer.specs.Texts.{comments}
use Rattle.script_explorer.proofs.texts.put_replies.Given as goal

abbrev pub invariant-loop-text : goal.invariant-loop-text
invariant-loop-text l = l.out.items ≡ l.initial.out.items ++ flat_map comments (map string_bytes (take l.text-index l.texts))
