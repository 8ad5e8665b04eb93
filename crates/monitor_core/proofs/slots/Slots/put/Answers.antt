use Rattle.std.proofs.Common.{Option, Some, List, ℕ, cond, ◌==◌, slice_set, sym, ap, subst, ◌∙◌}
use Rattle.std.specs.Vec.{vec_capacity}
use Rattle.monitor_core.specs.Slots.{Entry, Slotted, AreKept, held_at}
use Rattle.monitor_core.proofs.Filling.{last_free, filled, written}
use Rattle.monitor_core.proofs.slots.Slots.put.Goals as goal

pub invariant_of-self : goal.invariant_of-self
invariant_of-self g c =
    let kept = subst (λ (xs : List ℕ). AreKept c.self.inside.held.items xs (vec_capacity c.self.inside.free)) c.in-Some.ensures.items c.self.invariant in
    rw (c.replace.ensures.after, c.in-Some.ensures.capacity) (filled _ _ _ _ (c.args.reference, c.args.monitor) kept)

pub returns-in-Some-clause-empty : goal.returns-in-Some-clause-empty
returns-in-Some-clause-empty g c =
    let kept = subst (λ (xs : List ℕ). AreKept c.self.inside.held.items xs (vec_capacity c.self.inside.free)) c.in-Some.ensures.items c.self.invariant in
    ap (λ (k : Slotted g.row.M.Denot). held_at k.slots c.in-Some.slot) (sym c.self.view_is) ∙ (last_free _ _ c.in-Some.slot _ kept).1

pub returns-in-Some-clause-slots : goal.returns-in-Some-clause-slots
returns-in-Some-clause-slots g c = λ other.
    let kept = subst (λ (xs : List ℕ). AreKept c.self.inside.held.items xs (vec_capacity c.self.inside.free)) c.in-Some.ensures.items c.self.invariant in
    let new : Option (Entry g.row.M.Denot) = Some (c.args.reference, c.args.monitor) in
    ap (λ (entry : Option (Entry g.row.M.Denot)). held_at (slice_set c.self.inside.held.items c.in-Some.slot entry) other) c.replace.ensures.after
    ∙ written c.self.inside.held.items c.in-Some.slot new (last_free _ _ c.in-Some.slot _ kept).0 other
    ∙ ap (λ (k : Slotted g.row.M.Denot). cond (other == c.in-Some.slot) new (held_at k.slots other)) c.self.view_is
