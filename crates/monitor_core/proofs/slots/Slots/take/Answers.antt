use Rattle.std.proofs.Common.{◌≡◌, Some, IsSome, sym, subst, arith}
use Rattle.monitor_core.specs.Slots.{Entry, Slotted, held_at}
use Rattle.monitor_core.proofs.Filling.{emptied, room_left, some_entry}
use Rattle.monitor_core.proofs.slots.Slots.take.Goals as goal

pub push_reserved-requires : goal.push_reserved-requires
push_reserved-requires g c =
    let some : (e : Entry g.row.M.Denot) × (held_at c.self.inside.held.items c.args.slot ≡ Some e) = some_entry _ (subst (λ (k : Slotted g.row.M.Denot). IsSome (held_at k.slots c.args.slot)) (sym c.self.view_is) c.requires) in
    omega (arith, room_left _ _ _ _ some.0 some.1 c.self.invariant)

pub invariant_of-self : goal.invariant_of-self
invariant_of-self g c =
    let some : (e : Entry g.row.M.Denot) × (held_at c.self.inside.held.items c.args.slot ≡ Some e) = some_entry _ (subst (λ (k : Slotted g.row.M.Denot). IsSome (held_at k.slots c.args.slot)) (sym c.self.view_is) c.requires) in
    rw (
      c.replace.ensures.after,
      c.push_reserved.ensures.items,
      c.push_reserved.ensures.capacity,
    ) (emptied _ _ _ _ some.0 some.1 c.self.invariant)
