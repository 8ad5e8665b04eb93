use Rattle.std.proofs.Common.{◌≡◌, ◌++◌, take, string_bytes}
use Rattle.std.specs.List.{flat_map}
use Rattle.node_core.specs.Model.{model_of}
use Rattle.node_texts.specs.Trunks.{trunks_text}
use Rattle.script_threads.proofs.looking.put_all_trunks.Given as goal

abbrev pub invariant-loop-peer : goal.invariant-loop-peer
invariant-loop-peer l =
    string_bytes l.out ≡ string_bytes l.fn.out ++ flat_map (λ peer. trunks_text (model_of l.node) peer.0) (take l.peer-index l.nodes)
