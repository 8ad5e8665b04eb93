use Rattle.erl_control.proofs.Answered.{no_row, message_read}
use Rattle.erl_control.proofs.control.fault_of.Goals as goal

pub returns-in_default-followed_at : goal.returns-in_default-followed_at
returns-in_default-followed_at c =
    let d = c.in_default.ensures.ok in no_row c.args.text.now d.0 c.in_default.field-0 c.requires c.in_default-followed_at.ensures d.1

pub returns-in-Ok : goal.returns-in-Ok
returns-in-Ok c =
    let d = c.in-Ok.ensures.ok in
    absurd (message_read c.args.text.now (c.in-Some.field-0-0, c.in-Some.message) d.0 c.in-Ok.field-0 c.requires c.in-Some.ensures d.1)
