use Rattle.std.proofs.Common.{◌≡◌, ◌++◌, ◌+◌, ap, ◌∙◌, string_bytes}
use Rattle.erl_names.specs.Ids.{pid_of}
use Rattle.erl_term.specs.declared.term.Pid.{Pid}
use Rattle.node_core.specs.Model.{model_of}
use Rattle.node_texts.specs.Whole.{whole_process}
use Rattle.node_texts.proofs.Told.{process_more}
use Rattle.node_texts.proofs.whole.put_whole_processes.Goals as goal

pub loop-before-preserved : goal.loop-before-preserved
loop-before-preserved c =
    let m = model_of c.args.node.now in
    let id = c.loop-before.before + 1 in
    let out = string_bytes c.loop-before.out in
    let drawn : c.in_ok-process.process ≡ pid_of m.mint id = c.in_ok-process.ensures in
    process_more (whole_process m) m.mint c.loop-before.before (string_bytes c.args.out.now) out
    (string_bytes c.put_whole_process.new.out) c.loop-before.invariant
    (c.in_ok-put_whole_process.ensures ∙ ap (λ (p : Pid). out ++ whole_process m p) drawn)
