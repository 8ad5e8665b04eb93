use Rattle.std.proofs.Common.{◌≡◌, ◌+◌, ◌++◌, ◌∷◌, [], take, ap, sym, ◌∙◌, arith, rules}
use Rattle.std.proofs.lemmas.List.{take_more}
use Rattle.dist_model.specs.Names.{Name}
use Rattle.dist_model.specs.declared.report.Effect.{Effect}
use Rattle.erl_names.specs.declared.trunk.TrunkId.{TrunkId}
use Rattle.node_frames.specs.Frames.{Framed}
use Rattle.world_core.specs.Lists.{at}
use Rattle.node_core.specs.SentAt.{sent_at}
use Rattle.world_core.proofs.More.{behind}
use Rattle.world_core.proofs.lists.Lists.send_some.Goals as goal

pub loop-sent-preserved : goal.loop-sent-preserved
loop-sent-preserved c =
    let all = c.args.effects.now in
    let i = c.loop-sent.sent in
    let item = c.index-effects-sent.result in
    let more : take (i + 1) all ≡ take i all ++ item ∷ [] =
    take_more all i item (omega arith) ∙ ap (λ (z : Effect Framed). take i all ++ z ∷ []) (sym c.index-effects-sent.is) in
    let one : (t : TrunkId) (x : Name) → at c.send_one.new.self t x ≡ at c.loop-sent.self t x ++ sent_at t x (item ∷ []) = search rules in
    record {
      some = omega arith;
      sent = λ t x.
          one t x ∙ ap (λ q. q ++ sent_at t x (item ∷ [])) (c.loop-sent.invariant.sent t x)
          ∙ behind t x (at c.args.self.now t x) (take i all) (take (i + 1) all) item more;
    }
