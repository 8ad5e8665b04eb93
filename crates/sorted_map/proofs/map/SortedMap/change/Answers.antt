use Rattle.std.proofs.Common.{Some, sym, ap, ◌∙◌, subst, arith}
use Rattle.std.specs.FinMap.{find}
use Rattle.sorted_map.specs.Entries.{IsFoundAt, IsGapAt}
use Rattle.sorted_map.proofs.Places.{found_in_range, finds, finds_none, put_found, sorted_put, changed_found, changed_gap}
use Rattle.sorted_map.proofs.map.SortedMap.change.Goals as goal

pub index_mut-requires : goal.index_mut-requires
index_mut-requires g c = omega (arith, found_in_range g.met.K.Ord.total _ _ _ c.in-Ok.ensures.found, c.deref.ensures.len)

pub invariant_of-self : goal.invariant_of-self
invariant_of-self g c =
    let found = subst (λ l. IsFoundAt g.K.Ord.cmp l c.args.key.now c.in-Ok.at) c.deref.ensures.value c.in-Ok.ensures.found in
    rw (
      c.index_mut.ensures.value,
      c.replace.ensures.after,
    ) (sorted_put g.met.K.Ord.total _ _ c.args.key.now c.args.value c.self.invariant
    (put_found g.met.K.Ord.total _ c.args.key.now c.args.value c.in-Ok.at c.index_mut.result.now found))

pub returns-in-Ok-clause-entries : goal.returns-in-Ok-clause-entries
returns-in-Ok-clause-entries g c =
    let found = subst (λ l. IsFoundAt g.K.Ord.cmp l c.args.key.now c.in-Ok.at) c.deref.ensures.value c.in-Ok.ensures.found in
    rw (← c.self.view_is) (rw (c.index_mut.ensures.value, c.replace.ensures.after)
    (sym (changed_found g.met.K.Ord.total _ c.args.key.now c.args.value c.in-Ok.at c.index_mut.result.now found)))

pub returns-in-Ok-clause-before : goal.returns-in-Ok-clause-before
returns-in-Ok-clause-before g c =
    let found = subst (λ l. IsFoundAt g.K.Ord.cmp l c.args.key.now c.in-Ok.at) c.deref.ensures.value c.in-Ok.ensures.found in
    ap Some c.replace.ensures.value ∙ ap (λ e. Some e.1) c.index_mut.ensures.value
    ∙ sym (finds g.met.K.Ord.total _ c.args.key.now c.in-Ok.at c.index_mut.result.now found)
    ∙ ap (λ k. find g.K.Ord.cmp c.args.key.now k.entries) c.self.view_is

pub returns-in-Err-clause-entries : goal.returns-in-Err-clause-entries
returns-in-Err-clause-entries g c =
    let gap = subst (λ l. IsGapAt g.K.Ord.cmp l c.args.key.now c.in-Err.field-0) c.deref.ensures.value c.in-Err.ensures.gap in
    rw (← c.self.view_is) (sym (changed_gap g.met.K.Ord.total _ c.args.key.now c.args.value _ c.self.invariant gap))

pub returns-in-Err-clause-before : goal.returns-in-Err-clause-before
returns-in-Err-clause-before g c =
    let gap = subst (λ l. IsGapAt g.K.Ord.cmp l c.args.key.now c.in-Err.field-0) c.deref.ensures.value c.in-Err.ensures.gap in
    sym (finds_none g.met.K.Ord.total _ _ _ c.self.invariant gap) ∙ ap (λ k. find g.K.Ord.cmp c.args.key.now k.entries) c.self.view_is
