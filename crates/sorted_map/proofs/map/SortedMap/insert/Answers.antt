use Rattle.std.proofs.Common.{Some, sym, ap, ◌∙◌, subst, arith}
use Rattle.std.specs.FinMap.{find, put}
use Rattle.sorted_map.specs.Entries.{IsFoundAt, IsGapAt}
use Rattle.sorted_map.proofs.Places.{found_in_range, gap_in_range, finds, finds_none, put_found, put_gap, sorted_put, is_not_some}
use Rattle.sorted_map.proofs.map.SortedMap.insert.Goals as goal

pub index_mut-requires : goal.index_mut-requires
index_mut-requires g c = omega (arith, found_in_range g.met.K.Ord.total _ _ _ c.in-Ok.ensures.found, c.deref.ensures.len)

pub invariant_of-self : goal.invariant_of-self
invariant_of-self g c =
    let found = subst (λ l. IsFoundAt g.K.Ord.cmp l c.args.key c.in-Ok.at) c.deref.ensures.value c.in-Ok.ensures.found in
    rw (
      c.index_mut.ensures.value,
      c.replace.ensures.after,
    ) (sorted_put g.met.K.Ord.total _ _ c.args.key c.args.value c.self.invariant
    (put_found g.met.K.Ord.total _ c.args.key c.args.value c.in-Ok.at c.index_mut.result.now found))

pub returns-in-Ok-clause-entries : goal.returns-in-Ok-clause-entries
returns-in-Ok-clause-entries g c =
    let found = subst (λ l. IsFoundAt g.K.Ord.cmp l c.args.key c.in-Ok.at) c.deref.ensures.value c.in-Ok.ensures.found in
    rw (← c.self.view_is) (rw (c.index_mut.ensures.value, c.replace.ensures.after)
    (sym (put_found g.met.K.Ord.total _ c.args.key c.args.value c.in-Ok.at c.index_mut.result.now found)))

pub returns-in-Ok-clause-before : goal.returns-in-Ok-clause-before
returns-in-Ok-clause-before g c =
    let found = subst (λ l. IsFoundAt g.K.Ord.cmp l c.args.key c.in-Ok.at) c.deref.ensures.value c.in-Ok.ensures.found in
    ap Some c.replace.ensures.value ∙ ap (λ e. Some e.1) c.index_mut.ensures.value
    ∙ sym (finds g.met.K.Ord.total _ c.args.key c.in-Ok.at c.index_mut.result.now found)
    ∙ ap (λ k. find g.K.Ord.cmp c.args.key k.entries) c.self.view_is

pub returns-in_err-reserve-in-Err-clause-held : goal.returns-in_err-reserve-in-Err-clause-held
returns-in_err-reserve-in-Err-clause-held g c =
    let gap = subst (λ l. IsGapAt g.K.Ord.cmp l c.args.key c.in-Err.at) c.deref.ensures.value c.in-Err.ensures.gap in
    let none =
    sym (finds_none g.met.K.Ord.total _ _ _ c.self.invariant gap) ∙ ap (λ k. find g.K.Ord.cmp c.args.key k.entries) c.self.view_is in
    λ h. absurd (is_not_some _ (sym none) h)

pub insert-requires : goal.insert-requires
insert-requires g c = omega (arith, gap_in_range g.met.K.Ord.total _ _ _ c.in-Err.ensures.gap, c.deref.ensures.len, c.reserve.ensures.len)

pub invariant_of-self-in-Err : goal.invariant_of-self-in-Err
invariant_of-self-in-Err g c =
    let gap = subst (λ l. IsGapAt g.K.Ord.cmp l c.args.key c.in-Err.at) c.deref.ensures.value c.in-Err.ensures.gap in
    rw (
      c.in_ok-insert-in-Err.ensures.items,
      c.reserve.ensures.items,
    ) (sorted_put g.met.K.Ord.total _ _ c.args.key c.args.value c.self.invariant
    (put_gap g.met.K.Ord.total _ c.args.key c.args.value c.in-Err.at gap))

pub returns-in_ok-insert-in-Err-clause-entries : goal.returns-in_ok-insert-in-Err-clause-entries
returns-in_ok-insert-in-Err-clause-entries g c =
    let gap = subst (λ l. IsGapAt g.K.Ord.cmp l c.args.key c.in-Err.at) c.deref.ensures.value c.in-Err.ensures.gap in
    rw (
      c.in_ok-insert-in-Err.ensures.items,
      c.reserve.ensures.items,
    ) (sym (put_gap g.met.K.Ord.total _ c.args.key c.args.value c.in-Err.at gap)
    ∙ ap (λ k. put g.K.Ord.cmp c.args.key c.args.value k.entries) c.self.view_is)

pub returns-in_ok-insert-in-Err-clause-before : goal.returns-in_ok-insert-in-Err-clause-before
returns-in_ok-insert-in-Err-clause-before g c =
    let gap = subst (λ l. IsGapAt g.K.Ord.cmp l c.args.key c.in-Err.at) c.deref.ensures.value c.in-Err.ensures.gap in
    sym (finds_none g.met.K.Ord.total _ _ _ c.self.invariant gap) ∙ ap (λ k. find g.K.Ord.cmp c.args.key k.entries) c.self.view_is
