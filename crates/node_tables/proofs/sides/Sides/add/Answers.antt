use Rattle.std.proofs.Common.{sym, ap, ◌∙◌}
use Rattle.node_tables.proofs.Placed.{put_sorted}
use Rattle.node_tables.proofs.RoutesKept.{down_routed}
use Rattle.node_tables.proofs.Whole.{bury_apart, bury_sides, neither, put_apart, put_sides}
use Rattle.node_tables.specs.Standings.{is_up_to, lost_place, side_of}
use Rattle.node_tables.proofs.sides.Sides.add.Goals as goal

pub hold-requires-clause-none : goal.hold-requires-clause-none
hold-requires-clause-none c =
    let it = c.args.self.now in (neither it.held.items it.gone.items c.args.side.trunk c.requires.none).0

pub bury-requires-clause-none : goal.bury-requires-clause-none
bury-requires-clause-none c =
    let it = c.args.self.now in (neither it.held.items it.gone.items c.args.side.trunk c.requires.none).1

pub invariant_of-self-clause-sorted : goal.invariant_of-self-clause-sorted
invariant_of-self-clause-sorted c =
    let it = c.args.self.now in
    put_sorted it.held.items c.hold.new.held.items c.args.side.trunk (side_of c.args.side) it.sorted c.hold.ensures.entries

pub invariant_of-self-clause-none_gone : goal.invariant_of-self-clause-none_gone
invariant_of-self-clause-none_gone c =
    c.hold.ensures.none_gone c.args.self.now.none_gone (sym c.is_open.ensures ∙ c.if-is_open.true)

pub invariant_of-self-clause-routed : goal.invariant_of-self-clause-routed
invariant_of-self-clause-routed c =
    let it = c.args.self.now in
    let x = c.args.side in
    down_routed it.routes.entries it.held.items c.hold.new.held.items x.trunk (side_of x) it.routed c.hold.ensures.entries c.requires.down.1
    (λ q. ap (is_up_to q) (neither it.held.items it.gone.items x.trunk c.requires.none).0)

pub invariant_of-self-clause-apart : goal.invariant_of-self-clause-apart
invariant_of-self-clause-apart c =
    let it = c.args.self.now in
    let x = c.args.side in
    put_apart it.held.items c.hold.new.held.items it.gone.items x.trunk (side_of x) c.hold.ensures.entries it.apart
    (neither it.held.items it.gone.items x.trunk c.requires.none).1

pub invariant_of-self-clause-first_lost : goal.invariant_of-self-clause-first_lost
invariant_of-self-clause-first_lost c = c.first_lost-self.ensures ∙ ap lost_place c.deref.ensures.value

pub invariant_of-self-else-is_open-clause-apart : goal.invariant_of-self-else-is_open-clause-apart
invariant_of-self-else-is_open-clause-apart c =
    let it = c.args.self.now in
    let x = c.args.side in
    bury_apart it.held.items it.gone.items c.bury.new.runs.items x c.bury.ensures.adds
    (neither it.held.items it.gone.items x.trunk c.requires.none).0 it.apart

pub returns-then-is_open-clause-sides : goal.returns-then-is_open-clause-sides
returns-then-is_open-clause-sides c =
    let it = c.args.self.now in
    let x = c.args.side in
    put_sides it.held.items c.hold.new.held.items it.gone.items x.trunk (side_of x) c.hold.ensures.entries

pub returns-else-is_open-clause-sides : goal.returns-else-is_open-clause-sides
returns-else-is_open-clause-sides c =
    let it = c.args.self.now in
    let x = c.args.side in
    bury_sides it.held.items it.gone.items c.bury.new.runs.items x c.bury.ensures.adds
    (neither it.held.items it.gone.items x.trunk c.requires.none).0
