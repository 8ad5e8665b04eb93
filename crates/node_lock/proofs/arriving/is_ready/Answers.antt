use Rattle.std.proofs.Common.{◌∙◌, ap, option_copied, sym}
use Rattle.node_lock.proofs.ResultsTold.{reads_here}
use Rattle.node_lock.specs.Applying.{is_ready}
use Rattle.node_core.specs.Model.{model_of}
use Rattle.node_history.specs.Kinds.{comes_here}
use Rattle.node_lock.proofs.arriving.is_ready.Goals as goal

-- what is read is whole, so the second test changes nothing
pub returns-then-is_read : goal.returns-then-is_read
returns-then-is_read c =
    let m = model_of c.args.node.now in
    let trunk = c.args.trunk.now in
    let piece = c.as_slice-bytes.ensures.item in
    let here = reads_here c.is_read.result c.if-is_read.true c.is_read.ensures in
    let whole =
    c.whole.ensures.1
    (c.what_is_read_is_whole.ensures m trunk piece.item piece.spelled (c.as_slice-bytes.ensures.bytes ∙ sym piece.written) here) in
    whole ∙ sym here ∙ ap (λ bs. comes_here m trunk bs) c.as_slice-bytes.ensures.bytes
    ∙ ap (λ o. is_ready m trunk (option_copied o)) (sym c.in-Some.is)
