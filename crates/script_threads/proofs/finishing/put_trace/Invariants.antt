use Rattle.std.proofs.Common.{◌≡◌, ◌++◌, take, string_bytes}
use Rattle.std.specs.List.{flat_map}
use Rattle.script_threads.specs.Merged.{sents_at}
use Rattle.script_threads.proofs.finishing.put_trace.Given as goal

abbrev pub invariant-loop-placed : goal.invariant-loop-placed
invariant-loop-placed l = string_bytes l.out ≡ string_bytes l.fn.out ++ flat_map (sents_at l.nodes l.books) (take l.placed-index l.entries)
