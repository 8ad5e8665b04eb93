use Rattle.std.proofs.Common.{◌≡◌}
use Rattle.std.specs.Option.{option_copied}
use Rattle.sorted_map.proofs.Walked.{ahead, walked}
use Rattle.dist_model.specs.Node.{ends_of}
use Rattle.erl_term.specs.Order.{pid_cmp}
use Rattle.node_plan.specs.Seen.{seen}
use Rattle.node_processes.proofs.commands.copied_links.Given as goal

-- the partners so far
abbrev pub invariant-loop-partner : goal.invariant-loop-partner
invariant-loop-partner l = l.entries.items ≡ walked pid_cmp (option_copied l.behind) (ends_of (seen l.node) l.process)

abbrev pub decreases-loop-partner : goal.decreases-loop-partner
decreases-loop-partner l = ahead pid_cmp (option_copied l.behind) (ends_of (seen l.node) l.process)
