use Rattle.std.proofs.Common.{Some, sym, ap, ◌∙◌, subst, arith}
use Rattle.std.specs.FinMap.{find}
use Rattle.sorted_map.specs.Entries.{IsFoundAt, IsGapAt}
use Rattle.sorted_map.proofs.Places.{found_in_range, finds, finds_none}
use Rattle.sorted_map.proofs.map.SortedMap.get.Goals as goal

pub index-requires : goal.index-requires
index-requires g c = omega (arith, found_in_range g.met.K.Ord.total _ _ _ c.in-Ok.ensures.found, c.deref.ensures.len)

pub returns-in-Ok : goal.returns-in-Ok
returns-in-Ok g c =
    let found = subst (λ l. IsFoundAt g.K.Ord.cmp l c.args.key.now c.in-Ok.at) c.deref.ensures.value c.in-Ok.ensures.found in
    ap (λ e. Some e.1) c.index.ensures ∙ sym (finds g.met.K.Ord.total _ _ _ c.index.result.now found)
    ∙ ap (λ k. find g.K.Ord.cmp c.args.key.now k.entries) c.self.view_is

pub returns-in-Err : goal.returns-in-Err
returns-in-Err g c =
    let gap = subst (λ l. IsGapAt g.K.Ord.cmp l c.args.key.now c.in-Err.field-0) c.deref.ensures.value c.in-Err.ensures.gap in
    sym (finds_none g.met.K.Ord.total _ _ _ c.self.invariant gap) ∙ ap (λ k. find g.K.Ord.cmp c.args.key.now k.entries) c.self.view_is
