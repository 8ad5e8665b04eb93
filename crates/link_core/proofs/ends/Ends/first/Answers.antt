use Rattle.std.proofs.Common.{sym, ap, ◌∙◌}
use Rattle.std.specs.FinMap as map
use Rattle.std.specs.List.{slice_get}
use Rattle.erl_term.specs.Order.{pid_cmp}
use Rattle.link_core.specs.Ends.{Held}
use Rattle.link_core.proofs.ends.Ends.first.Goals as goal

pub returns : goal.returns
returns c =
    let here =
    sym (map.entries-from_sorted pid_cmp _ c.self.invariant.sorted) ∙ ap (λ (k : Held). map.entries k.ends) c.self.view_is in
    c.first.ensures ∙ ap (λ l. slice_get l 0) here
