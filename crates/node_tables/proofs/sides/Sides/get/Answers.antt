use Rattle.std.proofs.Common.{sym, ap, ◌∙◌, subst, arith, List}
use Rattle.conn_core.specs.declared.side.Side.{Side}
use Rattle.erl_names.specs.Order.{trunk_cmp}
use Rattle.sorted_map.specs.Entries.{IsFoundAt, IsGapAt}
use Rattle.node_tables.proofs.Placed.{none_found, open_read, open_settled, place_found, there_found, there_trunk}
use Rattle.node_tables.proofs.Whole.{get_gone, get_held}
use Rattle.node_tables.specs.Runs.{gone_at}
use Rattle.node_tables.specs.Standings.{entries_of, side_of}
use Rattle.node_tables.specs.declared.run.Run.{Run}
use Rattle.node_tables.proofs.sides.Sides.get.Goals as goal

pub returns-in-Ok-clause-side : goal.returns-in-Ok-clause-side
returns-in-Ok-clause-side c =
    let it = c.args.self.now in
    let q = c.args.trunk.now in
    let found = subst (λ (l : List Side). IsFoundAt trunk_cmp (entries_of l) q c.in-Ok.at) c.deref.ensures.value c.in-Ok.ensures.found in
    sym (get_held it.held.items it.gone.items q (side_of c.index.result.now)
    (there_found it.held.items q c.in-Ok.at c.index.result.now c.index.ensures found))

pub returns-in-Ok-clause-trunk : goal.returns-in-Ok-clause-trunk
returns-in-Ok-clause-trunk c = λ lives.
    let it = c.args.self.now in
    let q = c.args.trunk.now in
    let found = subst (λ (l : List Side). IsFoundAt trunk_cmp (entries_of l) q c.in-Ok.at) c.deref.ensures.value c.in-Ok.ensures.found in
    there_trunk it.held.items q c.in-Ok.at c.index.result.now c.index.ensures found

pub returns-in-Ok-clause-settled : goal.returns-in-Ok-clause-settled
returns-in-Ok-clause-settled c =
    let it = c.args.self.now in
    let q = c.args.trunk.now in
    let found = subst (λ (l : List Side). IsFoundAt trunk_cmp (entries_of l) q c.in-Ok.at) c.deref.ensures.value c.in-Ok.ensures.found in
    open_settled c.index.result.now.standing
    (open_read it.held.items c.in-Ok.at c.index.result.now (place_found it.held.items q c.in-Ok.at found) c.index.ensures it.none_gone)

pub index-requires : goal.index-requires
index-requires c = omega (arith, place_found _ _ _ c.in-Ok.ensures.found, c.deref.ensures.len)

pub returns-in-Some-clause-side : goal.returns-in-Some-clause-side
returns-in-Some-clause-side c =
    let it = c.args.self.now in
    let q = c.args.trunk.now in
    let gap = subst (λ (l : List Side). IsGapAt trunk_cmp (entries_of l) q c.in-Err.field-0) c.deref.ensures.value c.in-Err.ensures.gap in
    sym (get_gone it.held.items it.gone.items q (none_found it.held.items q c.in-Err.field-0 it.sorted gap)
    ∙ ap (λ (l : List Run). gone_at l q) (sym c.deref-in-Err.ensures.value) ∙ sym c.in-Some.ensures)

pub returns-in-None-clause-side : goal.returns-in-None-clause-side
returns-in-None-clause-side c =
    let it = c.args.self.now in
    let q = c.args.trunk.now in
    let gap = subst (λ (l : List Side). IsGapAt trunk_cmp (entries_of l) q c.in-Err.field-0) c.deref.ensures.value c.in-Err.ensures.gap in
    sym (get_gone it.held.items it.gone.items q (none_found it.held.items q c.in-Err.field-0 it.sorted gap)
    ∙ ap (λ (l : List Run). gone_at l q) (sym c.deref-in-Err.ensures.value) ∙ sym c.in-None.ensures)
