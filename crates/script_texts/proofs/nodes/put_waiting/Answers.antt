use Rattle.std.proofs.Common.{string_bytes, arith}
use Rattle.script_texts.proofs.MessagesWait.{waiting_more}
use Rattle.script_texts.proofs.nodes.put_waiting.Goals as goal

pub loop-place-preserved : goal.loop-place-preserved
loop-place-preserved c =
    waiting_more c.args.mailbox.now.messages c.loop-place.place (string_bytes c.args.out.now) (string_bytes c.loop-place.out)
    (string_bytes c.put_message_at.new.out)
    (omega (arith, c.len-place-end.ensures)) c.loop-place.invariant c.in_ok-put_message_at.ensures
