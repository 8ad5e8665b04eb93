use Rattle.std.proofs.Common.{refl, ◌∙◌, arith}
use Rattle.conn_core.specs.declared.side.Side.{Side}
use Rattle.conn_core.specs.declared.standing.Standing.TheVariants as standing
use Rattle.node_tables.proofs.Ended.{not_gone_yet, rest_apart, rest_buried, rest_sorted}
use Rattle.node_tables.proofs.stopping.bury_all.Goals as goal

pub bury-requires-clause-none : goal.bury-requires-clause-none
bury-requires-clause-none c =
    let h = c.loop.invariant in
    let x = c.in-Some.field-0 in
    let now : Side = record x { standing = standing.Gone } in
    not_gone_yet c.loop.held.items c.pop.new.self.items x now c.loop.gone.items c.in-Some.ensures.items h.sorted h.apart refl

pub loop-preserved : goal.loop-preserved
loop-preserved c =
    let h = c.loop.invariant in
    let held = c.loop.held.items in
    let rest = c.pop.new.self.items in
    let gone = c.loop.gone.items in
    let more = c.bury.new.runs.items in
    let x = c.in-Some.field-0 in
    let now : Side = record x { standing = standing.Gone } in
    let is = c.in-Some.ensures.items in
    record {
      sorted = rest_sorted held rest x now gone is h.sorted h.apart refl;
      rising = c.bury.ensures.rising;
      apart = rest_apart held rest x now gone is h.sorted h.apart refl more c.bury.ensures.adds;
      buried = λ t. rest_buried held rest x now gone is h.sorted h.apart refl more c.bury.ensures.adds t ∙ h.buried t;
      left = omega (arith, h.left, c.in-Some.ensures.len);
      last = h.last;
      len = omega (arith, h.len, c.bury.ensures.len, c.in-Some.ensures.len);
      held_capacity = c.in-Some.ensures.capacity ∙ h.held_capacity;
      gone_capacity = c.bury.ensures.capacity ∙ h.gone_capacity;
    }
