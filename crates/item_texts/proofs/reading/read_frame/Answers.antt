use Rattle.std.proofs.Common.{◌≡◌, length, Ok, Some, rules}
use Rattle.erl_control.specs.declared.error.FrameError.{FrameError}
use Rattle.item_texts.proofs.WholeItem.{no_frame, refused, shorter}
use Rattle.item_texts.proofs.reading.read_frame.Goals as goal

pub returns-else-taken-bytes : goal.returns-else-taken-bytes
returns-else-taken-bytes c = λ b.
    let bytes = c.args.bytes.now in
    let is : c.unframe.result ≡ Ok (Some (c.in-Ok-Some.item, c.in-Ok-Some.taken)) = search rules in
    no_frame c.read_again.ensures bytes c.unframe.result b c.unframe.ensures.only
    (shorter c.unframe.result c.in-Ok-Some.item c.in-Ok-Some.taken (length bytes) FrameError.OutOfMemory is c.if-taken-bytes.false)

pub returns-in-Err-2 : goal.returns-in-Err-2
returns-in-Err-2 c = λ b.
    let other : c.in-Err.why ≡ FrameError.OutOfMemory → ⊥ = search rules in
    no_frame c.read_again.ensures c.args.bytes.now c.unframe.result b c.unframe.ensures.only
    (refused c.unframe.result c.in-Err.why (length c.args.bytes.now) FrameError.OutOfMemory c.in-Err.is other)
