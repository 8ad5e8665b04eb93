use Rattle.std.proofs.Common.{◌≡◌, ◌++◌, List, map, string_bytes, take}
use Rattle.std.specs.List.{flat_map}
use Rattle.dist_model.specs.Items.{Item}
use Rattle.dist_model.specs.declared.report.Effect.{Effect}
use Rattle.node_frames.specs.Frames.{shown}
use Rattle.run_traces.specs.Traces.{AreSentSpelled, words_in}
use Rattle.run_traces.proofs.sents.put_words.Given as goal

abbrev pub invariant-loop-effect : goal.invariant-loop-effect
invariant-loop-effect l =
    (items : List (Effect Item)) → l.effects ≡ map shown items → AreSentSpelled items
    → string_bytes l.out ≡ string_bytes l.fn.out ++ flat_map (words_in l.node) (take l.effect-index items)
