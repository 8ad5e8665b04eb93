use Rattle.std.proofs.Common.{◌≡◌, ◌+◌, ◌-◌, ◌++◌, ◌∷◌, [], take, ap, sym, ◌∙◌, arith, append-nil}
use Rattle.std.proofs.lemmas.List.{take_more}
use Rattle.dist_model.specs.declared.report.Effect.{Effect}
use Rattle.node_frames.specs.Frames.{Framed}
use Rattle.node_core.specs.SentAt.{sent_at}
use Rattle.world_core.proofs.More.{behind}
use Rattle.world_core.proofs.lists.Lists.take_back.Goals as goal

pub loop-left-preserved : goal.loop-left-preserved
loop-left-preserved c =
    let all = c.args.effects.now in
    let i = c.loop-left.left - 1 in
    let item = c.index-effects-left.result in
    let next : i + 1 ≡ c.loop-left.left = omega arith in
    let more : take (i + 1) all ≡ take i all ++ item ∷ [] =
    take_more all i item (omega arith) ∙ ap (λ (z : Effect Framed). take i all ++ z ∷ []) (sym c.index-effects-left.is) in
    record {
      some = omega arith;
      sent = λ rest h. c.take_one_back.ensures (λ t x. rest t x ++ sent_at t x (take i all)) (λ t x.
          c.loop-left.invariant.sent rest h t x ∙ ap (λ n. rest t x ++ sent_at t x (take n all)) (sym next)
          ∙ sym (behind t x (rest t x) (take i all) (take (i + 1) all) item more));
    }

pub returns : goal.returns
returns c = λ rest h t x.
    let none : c.loop-left.left ≡ 0 = omega arith in
    c.loop-left.invariant.sent rest h t x ∙ ap (λ n. rest t x ++ sent_at t x (take n c.args.effects.now)) none ∙ append-nil (rest t x)
