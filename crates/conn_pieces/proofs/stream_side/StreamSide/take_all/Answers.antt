use Rattle.std.proofs.Common.{◌++◌, ◌∷◌, [], ap, ◌∙◌, append_assoc}
use Rattle.conn_pieces.proofs.Taking.{less, one_more}
use Rattle.conn_pieces.proofs.stream_side.StreamSide.take_all.Goals as goal

pub each-smaller : goal.each-smaller
each-smaller c = let t = c.in_ok-take_one.ensures.took c.if-branch.true in less _ _ _ _ t.0 _ _ t.2

pub each-preserved : goal.each-preserved
each-preserved c =
    let t = c.in_ok-take_one.ensures.took c.if-branch.true in
    let i = c.each.invariant in (
      i.0 ++ t.0 ∷ [],
      t.1 ∙ ap (λ l. l ++ t.0 ∷ []) i.1 ∙ append_assoc c.args.arrivals.now.items i.0 (t.0 ∷ []),
      one_more _ _ _ _ i.0 _ _ t.0 _ _ i.2 t.2,
    )
