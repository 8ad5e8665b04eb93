use Rattle.std.proofs.Common.{arith}
use Rattle.item_decoder.proofs.running.Decoder.put_left.Goals as goal

pub overflow_add-self : goal.overflow_add-self
overflow_add-self c =
    omega (arith, c.in_ok-progress.ensures.2.within, c.in-Some.ensures, c.as_slice.ensures.len, c.len.ensures)
