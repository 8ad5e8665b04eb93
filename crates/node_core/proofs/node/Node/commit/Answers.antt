use Rattle.std.proofs.Common.{sym, subst}
use Rattle.dist_model.specs.Node.{Node}
use Rattle.node_core.specs.Model.{model_of}
use Rattle.node_connections.specs.Ahead.{IsAhead}
use Rattle.node_core.proofs.node.Node.commit.Goals as goal

pub invariant_of-self : goal.invariant_of-self
invariant_of-self c =
    let m = model_of c.args.self.now in
    let P : Node → Type 0 = (λ n. IsAhead c.heed.new.self n) in
    record { ahead = subst P (sym c.commit.ensures.node) (c.heed.ensures m (c.go_on.ensures m c.args.self.now.ahead c.requires.ahead)) }
