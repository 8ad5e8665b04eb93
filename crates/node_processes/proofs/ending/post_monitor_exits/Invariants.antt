use Rattle.std.proofs.Common.{◌≡◌}
use Rattle.std.specs.FinMap as fm
use Rattle.std.specs.Option.{option_copied}
use Rattle.dist_model.specs.Exits.{monitor_exits}
use Rattle.dist_model.specs.Names.{same_pid}
use Rattle.dist_model.specs.Work.{Work, post_all}
use Rattle.monitor_core.specs.declared.monitor.Registration.{Registration}
use Rattle.monitor_core.proofs.Walks.{ahead, walked}
use Rattle.node_plan.specs.Carried.{CarriesOut}
use Rattle.node_plan.specs.Seen.{seen}
use Rattle.node_processes.proofs.ending.post_monitor_exits.Given as goal

-- those so far have been told
abbrev pub invariant-loop-reference : goal.invariant-loop-reference
invariant-loop-reference l = record {
  told : (work : Work) → CarriesOut l.fn.plan (seen l.node) work → CarriesOut l.plan (seen l.node)
      (post_all (monitor_exits l.process l.reason (walked (λ (m : Registration). same_pid m.held l.process) (option_copied l.behind) (fm.entries l.watchers.monitors))) work);
  answer : l.plan.answer ≡ l.fn.plan.answer;
  change : l.plan.change ≡ l.fn.plan.change;
  watches : l.plan.watches ≡ l.fn.plan.watches;
  watchers : l.plan.watchers ≡ l.fn.plan.watchers;
}

abbrev pub decreases-loop-reference : goal.decreases-loop-reference
decreases-loop-reference l = ahead (option_copied l.behind) (fm.entries l.watchers.monitors)
