use Rattle.std.proofs.Common.{sym, ap, ◌∙◌}
use Rattle.std.specs.FinMap as map
use Rattle.std.specs.List.{last_or}
use Rattle.std.specs.Option.{option_copied}
use Rattle.std.proofs.Common.{None}
use Rattle.monitor_core.specs.Monitors.{Held}
use Rattle.monitor_core.proofs.Present.{held_in, last_slot}
use Rattle.monitor_core.proofs.monitors.Monitors.last.Goals as goal

pub returns-in_err-slot : goal.returns-in_err-slot
returns-in_err-slot g c =
    let slots = c.self.inside.slots.slots in
    let indexed = c.self.invariant.indexed in
    ap option_copied c.from_residual.ensures ∙ ap (held_in slots) (sym c.in_err-slot.was ∙ c.last.ensures)
    ∙ last_slot _ _ slots _ indexed.alone indexed.ordered.references
    ∙ ap (λ (k : Held g.row.M.Denot). last_or None (map.entries k.monitors)) c.self.view_is

pub returns : goal.returns
returns g c =
    let slots = c.self.inside.slots.slots in
    let indexed = c.self.invariant.indexed in
    c.get.ensures ∙ ap (held_in slots) (sym c.in_ok-slot.was ∙ c.last.ensures)
    ∙ last_slot _ _ slots _ indexed.alone indexed.ordered.references
    ∙ ap (λ (k : Held g.row.M.Denot). last_or None (map.entries k.monitors)) c.self.view_is
