use Rattle.std.proofs.Common.{◌≡◌, ◌++◌, take, string_bytes}
use Rattle.std.specs.List.{flat_map}
use Rattle.script_texts.specs.Nodes.{waiting_text}
use Rattle.script_texts.proofs.nodes.put_waiting.Given as goal

abbrev pub invariant-loop-place : goal.invariant-loop-place
invariant-loop-place l = string_bytes l.out ≡ string_bytes l.fn.out ++ flat_map waiting_text (take l.place l.mailbox.messages)
