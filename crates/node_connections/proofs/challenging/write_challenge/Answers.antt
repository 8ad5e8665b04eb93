use Rattle.std.proofs.Common.{◌≡◌, rules, sym, ap, subst, ◌∙◌}
use Rattle.dist_model.specs.Handshake.{identity, write}
use Rattle.erl_handshake.specs.Roles.{challenge_of}
use Rattle.erl_handshake.specs.declared.message.ShakeMsg.{ShakeMsg}
use Rattle.node_connections.proofs.Beside.{same_identity}
use Rattle.node_plan.specs.Carried.{MakesOr}
use Rattle.node_plan.specs.Seen.{seen}
use Rattle.node_connections.proofs.challenging.write_challenge.Goals as goal

pub returns-clause-makes : goal.returns-clause-makes
returns-clause-makes c = λ work h.
    let m = seen c.args.node.now in
    let said : c.in_ok-message.message ≡ challenge_of (identity m) c.args.challenge = search rules in
    let P : ShakeMsg → Type 0 =
    λ message. MakesOr m (write c.args.trunk.now c.args.peer.now message work) c.write.new.self c.write.result in
    subst P (said ∙ ap (λ own. challenge_of own c.args.challenge) (sym (same_identity c.args.plan.now m work h)))
    (c.write.ensures.makes m work h)
