use Rattle.std.proofs.Common.{◌≡◌, ◌++◌, string_bytes}
use Rattle.std.specs.List.{flat_map}
use Rattle.std.specs.Option.{option_copied}
use Rattle.sorted_map.proofs.Walked.{ahead, walked}
use Rattle.dist_model.specs.Node.{ends_of}
use Rattle.erl_term.specs.Order.{pid_cmp}
use Rattle.node_core.specs.Model.{model_of}
use Rattle.node_texts.specs.Whole.{link_line}
use Rattle.node_texts.proofs.whole.put_links.Given as goal

-- the links so far are told
abbrev pub invariant-loop-partner : goal.invariant-loop-partner
invariant-loop-partner l =
    string_bytes l.out ≡ string_bytes l.fn.out
    ++ flat_map link_line (walked pid_cmp (option_copied l.behind) (ends_of (model_of l.node) l.process))

abbrev pub decreases-loop-partner : goal.decreases-loop-partner
decreases-loop-partner l = ahead pid_cmp (option_copied l.behind) (ends_of (model_of l.node) l.process)
