use Rattle.std.proofs.Common.{None, Some, ap, subst, ◌∙◌}
use Rattle.std.specs.FinMap as map
use Rattle.std.specs.Option.{option_copied}
use Rattle.sorted_map.specs.Entries.{first_where}
use Rattle.monitor_core.specs.Monitors.{Held}
use Rattle.monitor_core.specs.Sought.{IsNext, meets}
use Rattle.monitor_core.proofs.Present.{next_first}
use Rattle.monitor_core.proofs.monitors.Monitors.next.Goals as goal

pub returns-in_err-slot : goal.returns-in_err-slot
returns-in_err-slot g c =
    let sought = c.args.sought.now in
    let behind = option_copied c.args.behind in
    let passes = meets g.M.Kept.process_of g.M.Kept.node_of sought behind in
    ap option_copied c.from_residual.ensures
    ∙ next_first c.self.inside.slots.slots c.self.invariant.indexed.alone passes None
    (subst (IsNext passes c.self.inside.slots.slots) c.in_err-slot.was c.next.ensures)
    ∙ ap (λ (k : Held g.row.M.Denot). first_where (λ r m. passes (r, m)) (map.entries k.monitors)) c.self.view_is

pub returns : goal.returns
returns g c =
    let sought = c.args.sought.now in
    let behind = option_copied c.args.behind in
    let passes = meets g.M.Kept.process_of g.M.Kept.node_of sought behind in
    c.get.ensures
    ∙ next_first c.self.inside.slots.slots c.self.invariant.indexed.alone passes (Some c.in_ok-slot.slot)
    (subst (IsNext passes c.self.inside.slots.slots) c.in_ok-slot.was c.next.ensures)
    ∙ ap (λ (k : Held g.row.M.Denot). first_where (λ r m. passes (r, m)) (map.entries k.monitors)) c.self.view_is
