use Rattle.std.proofs.Common.{sym, ap, ◌∙◌, subst, arith, List}
use Rattle.conn_core.specs.declared.side.Side.{Side}
use Rattle.erl_names.specs.Order.{trunk_cmp}
use Rattle.sorted_map.specs.Entries.{IsGapAt}
use Rattle.node_tables.proofs.Placed.{none_found, open_set, place_found}
use Rattle.node_tables.proofs.Stood.{moved_apart, moved_open, moved_routed, moved_sides, moved_sorted, none_yet, still_routed}
use Rattle.node_tables.proofs.Stood.{stood_apart, stood_sides, stood_sorted}
use Rattle.node_tables.proofs.Whole.{stood_else}
use Rattle.node_tables.specs.Standings.{entries_of, lost_place}
use Rattle.node_tables.proofs.sides.Sides.stand.Goals as goal

pub index-requires : goal.index-requires
index-requires c = omega (arith, place_found _ _ _ c.in-Ok.ensures.found, c.deref.ensures.len)

pub index_mut-requires : goal.index_mut-requires
index_mut-requires c = omega (arith, place_found _ _ _ c.in-Ok.ensures.found, c.deref.ensures.len)

pub remove-trunk-requires : goal.remove-trunk-requires
remove-trunk-requires c = omega (arith, place_found _ _ _ c.in-Ok.ensures.found, c.deref.ensures.len)

-- ---- in its place

pub invariant_of-self-clause-sorted : goal.invariant_of-self-clause-sorted
invariant_of-self-clause-sorted c =
    let it = c.args.self.now in
    stood_sorted it.held.items _ it.gone.items c.args.trunk.now c.in-Ok.at c.index_mut.result.now c.args.standing
    c.deref.ensures.value c.in-Ok.ensures.found c.index_mut.ensures.value it.sorted

pub invariant_of-self-clause-none_gone : goal.invariant_of-self-clause-none_gone
invariant_of-self-clause-none_gone c =
    let x = c.index_mut.result.now in
    open_set c.args.self.now.held.items c.in-Ok.at (record x { standing = c.args.standing })
    (sym c.is_open.ensures ∙ c.if-is_open.true) c.args.self.now.none_gone

pub invariant_of-self-clause-routed : goal.invariant_of-self-clause-routed
invariant_of-self-clause-routed c =
    let it = c.args.self.now in
    still_routed it.held.items _ it.gone.items c.args.trunk.now c.in-Ok.at c.index_mut.result.now c.args.standing
    c.deref.ensures.value c.in-Ok.ensures.found c.index_mut.ensures.value c.index.result.now c.index.ensures it.routes.entries
    c.close_route.new.routes.entries it.routed c.requires.down.1 c.close_route.ensures.up c.close_route.ensures.down

pub invariant_of-self-clause-apart : goal.invariant_of-self-clause-apart
invariant_of-self-clause-apart c =
    let it = c.args.self.now in
    stood_apart it.held.items _ it.gone.items c.args.trunk.now c.in-Ok.at c.index_mut.result.now c.args.standing
    c.deref.ensures.value c.in-Ok.ensures.found c.index_mut.ensures.value it.apart

pub invariant_of-self-clause-first_lost : goal.invariant_of-self-clause-first_lost
invariant_of-self-clause-first_lost c = c.first_lost-self.ensures ∙ ap lost_place c.deref-then-is_open.ensures.value

pub returns-then-is_open-clause-sides : goal.returns-then-is_open-clause-sides
returns-then-is_open-clause-sides c =
    let it = c.args.self.now in
    stood_sides it.held.items _ it.gone.items c.args.trunk.now c.in-Ok.at c.index_mut.result.now c.args.standing
    c.deref.ensures.value c.in-Ok.ensures.found c.index_mut.ensures.value

-- ---- with those that are gone

pub bury-requires-clause-none : goal.bury-requires-clause-none
bury-requires-clause-none c =
    let it = c.args.self.now in
    none_yet it.held.items _ it.gone.items c.args.trunk.now c.in-Ok.at c.remove-trunk.result c.args.standing
    c.deref.ensures.value c.in-Ok.ensures.found c.remove-trunk.ensures.value it.apart

pub invariant_of-self-else-is_open-clause-sorted : goal.invariant_of-self-else-is_open-clause-sorted
invariant_of-self-else-is_open-clause-sorted c =
    let it = c.args.self.now in
    moved_sorted it.held.items _ it.gone.items c.args.trunk.now c.in-Ok.at c.remove-trunk.result c.args.standing
    c.deref.ensures.value c.in-Ok.ensures.found c.remove-trunk.ensures.value it.sorted _ c.remove-trunk.ensures.items

pub invariant_of-self-else-is_open-clause-none_gone : goal.invariant_of-self-else-is_open-clause-none_gone
invariant_of-self-else-is_open-clause-none_gone c =
    let it = c.args.self.now in
    moved_open it.held.items _ it.gone.items c.args.trunk.now c.in-Ok.at c.remove-trunk.result c.args.standing
    c.deref.ensures.value c.in-Ok.ensures.found c.remove-trunk.ensures.value it.sorted _ c.remove-trunk.ensures.items it.none_gone

pub invariant_of-self-else-is_open-clause-routed : goal.invariant_of-self-else-is_open-clause-routed
invariant_of-self-else-is_open-clause-routed c =
    let it = c.args.self.now in
    moved_routed it.held.items _ it.gone.items c.args.trunk.now c.in-Ok.at c.remove-trunk.result c.args.standing
    c.deref.ensures.value c.in-Ok.ensures.found c.remove-trunk.ensures.value c.index.result.now c.index.ensures it.routes.entries
    c.close_route.new.routes.entries it.routed c.requires.down.1 c.close_route.ensures.up c.close_route.ensures.down
    _ c.remove-trunk.ensures.items it.sorted

pub invariant_of-self-else-is_open-clause-apart : goal.invariant_of-self-else-is_open-clause-apart
invariant_of-self-else-is_open-clause-apart c =
    let it = c.args.self.now in
    moved_apart it.held.items _ it.gone.items c.args.trunk.now c.in-Ok.at c.remove-trunk.result c.args.standing
    c.deref.ensures.value c.in-Ok.ensures.found c.remove-trunk.ensures.value it.sorted _ c.remove-trunk.ensures.items
    c.bury.new.runs.items c.bury.ensures.adds it.apart

pub invariant_of-self-else-is_open-clause-first_lost : goal.invariant_of-self-else-is_open-clause-first_lost
invariant_of-self-else-is_open-clause-first_lost c =
    c.first_lost-self-else-is_open.ensures ∙ ap lost_place c.deref-else-is_open.ensures.value

pub returns-else-is_open-clause-sides : goal.returns-else-is_open-clause-sides
returns-else-is_open-clause-sides c =
    let it = c.args.self.now in
    moved_sides it.held.items _ it.gone.items c.args.trunk.now c.in-Ok.at c.remove-trunk.result c.args.standing
    c.deref.ensures.value c.in-Ok.ensures.found c.remove-trunk.ensures.value it.sorted _ c.remove-trunk.ensures.items
    c.bury.new.runs.items c.bury.ensures.adds

-- ---- not there

pub returns-in_default-clause-sides : goal.returns-in_default-clause-sides
returns-in_default-clause-sides c =
    let it = c.args.self.now in
    let held = it.held.items in
    let q = c.args.trunk.now in
    let at = c.in_default.field-0 in
    let gap = subst (λ (l : List Side). IsGapAt trunk_cmp (entries_of l) q at) c.deref.ensures.value c.in_default.ensures.gap in
    stood_else held it.gone.items q c.args.standing (none_found held q at it.sorted gap) c.requires.down.0 c.requires.stays
