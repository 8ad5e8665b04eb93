use Rattle.std.proofs.Common.{◌≡◌, ◌++◌, take, string_bytes}
use Rattle.std.specs.List.{flat_map}
use Rattle.run_traces.specs.Traces.{sent_in}
use Rattle.run_traces.proofs.sents.put_sents.Given as goal

abbrev pub invariant-loop-effect : goal.invariant-loop-effect
invariant-loop-effect l = string_bytes l.out ≡ string_bytes l.fn.out ++ flat_map (sent_in l.node) (take l.effect-index l.effects)
