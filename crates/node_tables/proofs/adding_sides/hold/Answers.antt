use Rattle.std.proofs.Common.{ap, ◌∙◌, subst, arith, List}
use Rattle.conn_core.specs.declared.side.Side.{Side}
use Rattle.erl_names.specs.Order.{trunk_cmp}
use Rattle.sorted_map.specs.Entries.{IsFoundAt, IsGapAt}
use Rattle.node_tables.proofs.Placed.{insert_puts, not_there, open_insert, place_gap}
use Rattle.node_tables.specs.Standings.{all_open, entries_of}
use Rattle.node_tables.proofs.adding_sides.hold.Goals as goal

pub unreachable-requires : goal.unreachable-requires
unreachable-requires c =
    let held = c.args.held.now.items in
    let q = c.args.side.trunk in
    let found =
    subst (λ (l : List Side). IsFoundAt trunk_cmp (entries_of l) q c.in-Ok.field-0) c.deref.ensures.value c.in-Ok.ensures.found in
    not_there held q c.in-Ok.field-0 found c.requires.none

pub insert-requires : goal.insert-requires
insert-requires c = omega (arith, place_gap _ _ _ c.in-Err.ensures.gap, c.deref.ensures.len)

pub returns-clause-entries : goal.returns-clause-entries
returns-clause-entries c =
    let held = c.args.held.now.items in
    let x = c.args.side in
    let at = c.in-Err.at in
    let gap = subst (λ (l : List Side). IsGapAt trunk_cmp (entries_of l) x.trunk at) c.deref.ensures.value c.in-Err.ensures.gap in
    ap entries_of c.in-Ok-insert.ensures.items ∙ insert_puts held at x gap

pub returns-clause-none_gone : goal.returns-clause-none_gone
returns-clause-none_gone c = λ h o.
    ap all_open c.in-Ok-insert.ensures.items ∙ open_insert c.args.held.now.items c.in-Err.at c.args.side o h
