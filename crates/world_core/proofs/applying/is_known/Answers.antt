use Rattle.std.proofs.Common.{◌≡◌, ap, sym, ◌∙◌}
use Rattle.dist_model.specs.Dialing.{has_name}
use Rattle.world_core.specs.Names.{names_of}
use Rattle.world_core.proofs.Named.{has_node, peer_is}
use Rattle.world_core.proofs.applying.is_known.Goals as goal

pub returns-in-Dial : goal.returns-in-Dial
returns-in-Dial c = λ peer word e.
    let same : peer ≡ c.in-Dial.peer = peer_is peer c.in-Dial.peer word c.in-Dial.word (sym e ∙ c.in-Dial.is) in
    ap (λ p. has_name p (names_of c.args.nodes.now)) same ∙ has_node c.in-Dial.peer c.args.nodes.now ∙ sym c.has_node.ensures
