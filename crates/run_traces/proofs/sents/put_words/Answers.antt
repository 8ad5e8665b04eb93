use Rattle.std.proofs.Common.{refl, string_bytes}
use Rattle.run_traces.specs.Traces.{words_in}
use Rattle.run_traces.proofs.Effects.{below_both, effect_at, shown_at, silent, spelled_at}
use Rattle.run_traces.proofs.Walked.{walked_more}
use Rattle.run_traces.proofs.sents.put_words.Goals as goal

pub loop-effect-preserved : goal.loop-effect-preserved
loop-effect-preserved c = λ items is spelled.
    let n = c.loop-effect.effect-index in
    let it = effect_at items n in
    walked_more (words_in c.args.node.now) items n it silent (string_bytes c.args.out.now) (string_bytes c.loop-effect.out)
    (string_bytes c.put_words_in.new.out) (below_both items c.args.effects.now n is c.loop-effect-test.true) refl
    (c.loop-effect.invariant items is spelled)
    (c.in_ok-put_words_in.ensures it (shown_at items c.args.effects.now n c.effect-item.result is c.loop-effect-test.true c.effect-item.is)
    (spelled_at items n spelled))
