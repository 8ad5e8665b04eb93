use Rattle.std.proofs.Common.{◌≡◌, ◌∷◌, [], ◌++◌, Some, ap, ◌∙◌, append-nil, rules}
use Rattle.dist_model.specs.declared.report.Effect.{Effect}
use Rattle.node_frames.specs.Frames.{Framed}
use Rattle.node_core.specs.SentAt.{one_at, sent_at}
use Rattle.world_core.proofs.lists.Lists.take_one_back.Goals as goal

pub returns-in-Sent-Some-default-default : goal.returns-in-Sent-Some-default-default
returns-in-Sent-Some-default-default c = λ rest h.
    let u = c.in-Sent-Some-default-default.trunk in
    let y = c.in-Sent-Some-default-default.peer in
    let frame = c.in-Sent-Some-default-default.item in
    let is : c.args.effect.now ≡ Effect.Sent (Some u) y frame = search rules in
    c.drop_last.ensures rest frame (λ t x.
    h t x ∙ ap (λ (e : Effect Framed). rest t x ++ sent_at t x (e ∷ [])) is
    ∙ ap (λ q. rest t x ++ q) (append-nil (one_at (t, x) (u, y) frame)))
