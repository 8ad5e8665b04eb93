use Rattle.std.proofs.Common.{◌≡◌, ◌++◌, string_bytes}
use Rattle.std.specs.FinMap as fm
use Rattle.std.specs.List.{flat_map}
use Rattle.std.specs.Option.{option_copied}
use Rattle.dist_model.specs.Names.{same_pid}
use Rattle.monitor_core.specs.declared.monitor.Watch.{Watch}
use Rattle.monitor_core.proofs.Walks.{ahead, walked}
use Rattle.node_texts.specs.Forms.{own_in}
use Rattle.node_texts.proofs.monitors.put_own.Given as goal

-- those so far are told
abbrev pub invariant-loop-reference : goal.invariant-loop-reference
invariant-loop-reference l =
    string_bytes l.out ≡ string_bytes l.fn.out
    ++ flat_map (own_in l.form) (walked (λ (m : Watch). same_pid m.owner l.process) (option_copied l.behind) (fm.entries l.watches.monitors))

abbrev pub decreases-loop-reference : goal.decreases-loop-reference
decreases-loop-reference l = ahead (option_copied l.behind) (fm.entries l.watches.monitors)
