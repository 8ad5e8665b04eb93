use Rattle.std.proofs.Common.{sym, ap, ◌∙◌}
use Rattle.std.specs.FinMap as map
use Rattle.std.specs.Ordering.{is_lt}
use Rattle.sorted_map.specs.Entries.{first_where}
use Rattle.erl_term.specs.Order.{pid_cmp}
use Rattle.link_core.specs.Ends.{Held}
use Rattle.link_core.proofs.ends.Ends.next_behind.Goals as goal

pub returns : goal.returns
returns c =
    let here =
    sym (map.entries-from_sorted pid_cmp _ c.self.invariant.sorted) ∙ ap (λ (k : Held). map.entries k.ends) c.self.view_is in
    c.next_behind.ensures ∙ ap (first_where (λ held end. is_lt (pid_cmp c.args.partner.now held))) here
