use Rattle.std.proofs.Common.{◌++◌, ◌∙◌, List, ap, append_assoc, codes, refl, string_bytes, ℕ}
use Rattle.dist_model.specs.Items.{Tick}
use Rattle.item_texts.specs.Words.{item_text}
use Rattle.world_texts.specs.Travelling.{more_text}
use Rattle.world_texts.proofs.Frames.{below_both, frame_at, item_at, spelled_at}
use Rattle.world_texts.proofs.Walked.{walked_more}
use Rattle.world_texts.proofs.travels.put_more.Goals as goal

pub loop-frame-preserved : goal.loop-frame-preserved
loop-frame-preserved c = λ items spelled is.
    let n = c.loop-frame.frame-index in
    let out = string_bytes c.loop-frame.out in
    let item = item_at items n in
    walked_more more_text items n item Tick (string_bytes c.args.out.now) out (string_bytes c.put_frame.new.out)
    (below_both items c.args.frames.now n is c.loop-frame-test.true) refl (c.loop-frame.invariant items spelled is)
    (c.in_ok-put_frame.ensures item (spelled_at items n spelled)
    (frame_at items c.args.frames.now n c.frame-item.result is c.loop-frame-test.true c.frame-item.is)
    ∙ ap (λ (text : List ℕ). text ++ item_text item) c.in_ok-push_str.ensures.bytes
    ∙ append_assoc out (codes "; ") (item_text item))
