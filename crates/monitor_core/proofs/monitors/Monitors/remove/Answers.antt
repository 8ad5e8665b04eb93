use Rattle.std.proofs.Common.{is_some, sym, ap, subst, ◌∙◌}
use Rattle.std.specs.FinMap as map
use Rattle.monitor_core.specs.Monitors.{Held}
use Rattle.monitor_core.specs.Slots.{map_of}
use Rattle.monitor_core.specs.Sought.{IsNext}
use Rattle.monitor_core.proofs.Maps.{remove_same}
use Rattle.monitor_core.proofs.Present.{fresh_none, get_slot, named_none, named_slot, of_reference, take_map}
use Rattle.monitor_core.proofs.monitors.Monitors.remove.Goals as goal

pub returns-in-None-clause-answer : goal.returns-in-None-clause-answer
returns-in-None-clause-answer g c =
    let slots = c.self.inside.slots.slots in
    let next = subst (IsNext (of_reference c.args.reference) slots) c.in-None.is c.next.ensures in
    let none = fresh_none slots c.args.reference.now (named_none slots c.args.reference next) in
    sym (ap is_some (ap (λ (k : Held g.row.M.Denot). map.get k.monitors c.args.reference.now) (sym c.self.view_is) ∙ none))

pub returns-in-None-clause-monitors : goal.returns-in-None-clause-monitors
returns-in-None-clause-monitors g c =
    let slots = c.self.inside.slots.slots in
    let next = subst (IsNext (of_reference c.args.reference) slots) c.in-None.is c.next.ensures in
    let none = fresh_none slots c.args.reference.now (named_none slots c.args.reference next) in
    sym (remove_same _ _ (ap (λ (k : Held g.row.M.Denot). map.get k.monitors c.args.reference.now) (sym c.self.view_is) ∙ none))

pub returns-clause-answer : goal.returns-clause-answer
returns-clause-answer g c =
    let slots = c.self.inside.slots.slots in
    let next = subst (IsNext (of_reference c.args.reference) slots) c.in-Some.is c.next.ensures in
    let found = named_slot slots c.args.reference c.in-Some.slot next in
    sym (ap is_some (ap (λ (k : Held g.row.M.Denot). map.get k.monitors c.args.reference.now) (sym c.self.view_is)
    ∙ ap (map.get (map_of slots)) (sym found.2) ∙ get_slot slots c.in-Some.slot found.0 c.self.invariant.indexed.alone found.1))

pub returns-clause-monitors : goal.returns-clause-monitors
returns-clause-monitors g c =
    let slots = c.self.inside.slots.slots in
    let next = subst (IsNext (of_reference c.args.reference) slots) c.in-Some.is c.next.ensures in
    let found = named_slot slots c.args.reference c.in-Some.slot next in
    take_map slots _ c.in-Some.slot found.0 c.self.invariant.indexed.alone c.take_out.ensures.indexed.alone found.1 c.take_out.ensures.taken
    ∙ ap (map.remove (map_of slots)) found.2 ∙ ap (λ (k : Held g.row.M.Denot). map.remove k.monitors c.args.reference.now) c.self.view_is
