use Rattle.std.proofs.Common.{◌≡◌, ◌++◌, take, string_bytes}
use Rattle.std.specs.List.{flat_map}
use Rattle.script_texts.specs.Texts.{link_text}
use Rattle.script_texts.proofs.answers.put_links.Given as goal

abbrev pub invariant-loop-partner : goal.invariant-loop-partner
invariant-loop-partner l = string_bytes l.out ≡ string_bytes l.fn.out ++ flat_map link_text (take l.partner-index l.links)
