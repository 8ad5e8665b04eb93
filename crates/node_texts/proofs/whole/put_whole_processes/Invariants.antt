use Rattle.std.proofs.Common.{◌≡◌, ◌++◌, string_bytes}
use Rattle.std.specs.List.{flat_map}
use Rattle.node_core.specs.Model.{model_of}
use Rattle.node_texts.specs.Shown.{pids_of}
use Rattle.node_texts.specs.Whole.{whole_process}
use Rattle.node_texts.proofs.whole.put_whole_processes.Given as goal

abbrev pub invariant-loop-before : goal.invariant-loop-before
invariant-loop-before l =
    string_bytes l.out ≡ string_bytes l.fn.out ++ flat_map (whole_process (model_of l.node)) (pids_of (model_of l.node).mint l.before)
