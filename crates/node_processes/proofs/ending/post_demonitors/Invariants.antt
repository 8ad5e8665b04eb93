use Rattle.std.proofs.Common.{◌≡◌}
use Rattle.std.specs.FinMap as fm
use Rattle.std.specs.Option.{option_copied}
use Rattle.dist_model.specs.Exits.{demonitors}
use Rattle.dist_model.specs.Names.{same_pid}
use Rattle.dist_model.specs.Work.{Work, post_all}
use Rattle.monitor_core.specs.declared.monitor.Watch.{Watch}
use Rattle.monitor_core.proofs.Walks.{ahead, walked}
use Rattle.node_plan.specs.Carried.{CarriesOut}
use Rattle.node_plan.specs.Seen.{seen}
use Rattle.node_processes.proofs.ending.post_demonitors.Given as goal

-- those so far have been told
abbrev pub invariant-loop-reference : goal.invariant-loop-reference
invariant-loop-reference l = record {
  told : (work : Work) → CarriesOut l.fn.plan (seen l.node) work → CarriesOut l.plan (seen l.node)
      (post_all (demonitors l.process (walked (λ (m : Watch). same_pid m.owner l.process) (option_copied l.behind) (fm.entries l.watches.monitors))) work);
  answer : l.plan.answer ≡ l.fn.plan.answer;
  change : l.plan.change ≡ l.fn.plan.change;
  watches : l.plan.watches ≡ l.fn.plan.watches;
  watchers : l.plan.watchers ≡ l.fn.plan.watchers;
}

abbrev pub decreases-loop-reference : goal.decreases-loop-reference
decreases-loop-reference l = ahead (option_copied l.behind) (fm.entries l.watches.monitors)
