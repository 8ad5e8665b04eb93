use Rattle.std.proofs.Common.{sym, ap, subst, [], ◌∷◌, ◌++◌}
use Rattle.wire_core.proofs.Moves.{gives, learns_end}
use Rattle.wire_core.specs.Cuts.{AreCut}
use Rattle.wire_core.specs.Ends.{WireEnd}
use Rattle.wire_core.proofs.ends.WireOut.put.Goals as goal

pub push_as-requires-clause-rule : goal.push_as-requires-clause-rule
push_as-requires-clause-rule g c =
    let may = ap (λ v. v.puts) c.self.invariant.2 in
    let cut = subst (λ (end : WireEnd). AreCut (end.pieces ++ c.args.piece ∷ [])) (sym c.self.view_is) c.requires in
    (gives _ _ _ _ may cut, learns_end _ _ may)
