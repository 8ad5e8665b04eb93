use Rattle.std.proofs.Common.{None, Some, false, true, refl, sym, subst, ◌∙◌, arith}
use Rattle.std.specs.FinMap as map
use Rattle.sorted_map.specs.Entries.{first_where}
use Rattle.monitor_core.specs.Left.{IsFirstGone}
use Rattle.monitor_core.specs.Monitors.{Held}
use Rattle.monitor_core.specs.Slots.{map_of}
use Rattle.monitor_core.specs.Sought.{IsNext, meets}
use Rattle.monitor_core.specs.declared.orders.Sought.TheVariants.{OfProcess}
use Rattle.monitor_core.proofs.Present.{next_first, take_map}
use Rattle.monitor_core.proofs.monitors.Monitors.remove_first_of.Goals as goal

pub returns-in-None-clause-monitors : goal.returns-in-None-clause-monitors
returns-in-None-clause-monitors g c =
    let slots = c.self.inside.slots.slots in
    let passes = meets g.M.Kept.process_of g.M.Kept.node_of (OfProcess c.args.process) None in
    let first = next_first slots c.self.invariant.indexed.alone passes None (subst (IsNext passes slots) c.in-None.is c.next.ensures) in
    subst (λ (k : Held g.row.M.Denot). IsFirstGone (first_where (λ r m. passes (r, m)) (map.entries k.monitors)) k.monitors false k.monitors)
    c.self.view_is (subst (λ o. IsFirstGone o (map_of slots) false (map_of slots)) first (refl, refl))

pub invariant_of-self : goal.invariant_of-self
invariant_of-self g c = record {
  indexed = c.take_out.ensures.indexed;
  of_slots = omega (arith, c.take_out.ensures.slots, c.self.invariant.of_slots);
  of_trees = c.take_out.ensures.trees c.self.inside.room c.self.invariant.of_trees;
}

pub returns-clause-monitors : goal.returns-clause-monitors
returns-clause-monitors g c =
    let slots = c.self.inside.slots.slots in
    let passes = meets g.M.Kept.process_of g.M.Kept.node_of (OfProcess c.args.process) None in
    let next = subst (IsNext passes slots) c.in-Some.is c.next.ensures in
    let first = next_first slots c.self.invariant.indexed.alone passes (Some c.in-Some.slot) next in
    let taken = take_map slots _ c.in-Some.slot next.entry c.self.invariant.indexed.alone c.take_out.ensures.indexed.alone next.held c.take_out.ensures.taken in
    subst (λ (k : Held g.row.M.Denot). IsFirstGone (first_where (λ r m. passes (r, m)) (map.entries k.monitors)) k.monitors true
    (map_of c.take_out.new.slots.slots)) c.self.view_is
    (subst (λ o. IsFirstGone o (map_of slots) true (map_of c.take_out.new.slots.slots)) (sym next.held ∙ first) (refl, taken))
