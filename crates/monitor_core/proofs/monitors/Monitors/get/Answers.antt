use Rattle.std.proofs.Common.{sym, ap, subst, ◌∙◌}
use Rattle.std.specs.FinMap as map
use Rattle.std.specs.Option.{option_copied, option_map}
use Rattle.monitor_core.specs.Monitors.{Held}
use Rattle.monitor_core.specs.Slots.{map_of}
use Rattle.monitor_core.specs.Sought.{IsNext}
use Rattle.monitor_core.proofs.Present.{fresh_none, get_slot, named_none, named_slot, of_reference}
use Rattle.monitor_core.proofs.monitors.Monitors.get.Goals as goal

pub returns-in_err-slot : goal.returns-in_err-slot
returns-in_err-slot g c =
    let slots = c.self.inside.slots.slots in
    let next = subst (IsNext (of_reference c.args.reference) slots) c.in_err-slot.was c.next.ensures in
    ap option_copied c.from_residual.ensures
    ∙ sym (fresh_none slots c.args.reference.now (named_none slots c.args.reference next))
    ∙ ap (λ (k : Held g.row.M.Denot). map.get k.monitors c.args.reference.now) c.self.view_is

pub returns : goal.returns
returns g c =
    let slots = c.self.inside.slots.slots in
    let next = subst (IsNext (of_reference c.args.reference) slots) c.in_ok-slot.was c.next.ensures in
    let found = named_slot slots c.args.reference c.in_ok-slot.slot next in
    let is = sym (sym c.get.ensures ∙ ap option_copied c.in_ok-entry.was) ∙ found.1 in
    ap (option_map (λ e. e.1)) is ∙ sym (get_slot slots c.in_ok-slot.slot found.0 c.self.invariant.indexed.alone found.1)
    ∙ ap (map.get (map_of slots)) found.2
    ∙ ap (λ (k : Held g.row.M.Denot). map.get k.monitors c.args.reference.now) c.self.view_is
