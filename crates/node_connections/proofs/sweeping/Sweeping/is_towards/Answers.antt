use Rattle.std.proofs.Common.{◌≡◌, Some, rules, ap, sym, ◌∙◌}
use Rattle.dist_model.proofs.Keys.{same_name_true}
use Rattle.node_connections.proofs.sweeping.Sweeping.is_towards.Goals as goal

pub returns-in-Some : goal.returns-in-Some
returns-in-Some c = λ m h a.
    let s = c.args.self.now in
    let peer = c.args.peer.now in
    let is : s.peer ≡ Some c.in-Some.name = search rules in
    let same : c.in-Some.name ≡ peer = sym c.atom.ensures ∙ same_name_true c.atom.result.now peer (sym c.same_name.ensures ∙ h) in
    a peer (is ∙ ap (λ y. Some y) same)
