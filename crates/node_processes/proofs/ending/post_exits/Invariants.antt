use Rattle.std.proofs.Common.{◌≡◌}
use Rattle.std.specs.Option.{option_copied}
use Rattle.sorted_map.proofs.Walked.{ahead, walked}
use Rattle.dist_model.specs.Node.{ends_of}
use Rattle.dist_model.specs.Work.{Work, post_all}
use Rattle.erl_term.specs.Order.{pid_cmp}
use Rattle.node_plan.specs.Carried.{CarriesOut}
use Rattle.node_plan.specs.Parts.{link_in}
use Rattle.node_processes.specs.Exiting.{exits_to}
use Rattle.node_plan.specs.Seen.{seen}
use Rattle.node_processes.proofs.ending.post_exits.Given as goal

-- the partners so far have been told
abbrev pub invariant-loop-partner : goal.invariant-loop-partner
invariant-loop-partner l = record {
  told : (work : Work) → CarriesOut l.fn.plan (seen l.node) work → CarriesOut l.plan (seen l.node)
      (post_all (exits_to (link_in l.fn.plan.change) l.process l.reason (walked pid_cmp (option_copied l.behind) (ends_of (seen l.node) l.process))) work);
  answer : l.plan.answer ≡ l.fn.plan.answer;
  change : l.plan.change ≡ l.fn.plan.change;
  watches : l.plan.watches ≡ l.fn.plan.watches;
  watchers : l.plan.watchers ≡ l.fn.plan.watchers;
}

abbrev pub decreases-loop-partner : goal.decreases-loop-partner
decreases-loop-partner l = ahead pid_cmp (option_copied l.behind) (ends_of (seen l.node) l.process)
