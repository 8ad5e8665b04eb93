use Rattle.erl_control.specs.Reading.{AreRegSend}
use Rattle.erl_term.specs.Spelling.{IsSpelling}
use Rattle.erl_control.proofs.Sequence.{first_none, second_none, both_some}
use Rattle.erl_control.proofs.fields.reg_send_and_message_at.Goals as goal

pub returns-in_err-fields : goal.returns-in_err-fields
returns-in_err-fields c =
    rw c.from_residual.ensures (first_none (AreRegSend c.args.levels) (IsSpelling 64) c.args.bytes.now c.in_err-fields.ensures)

pub returns-in_err-message : goal.returns-in_err-message
returns-in_err-message c =
    rw c.from_residual-in_err-message.ensures
    (second_none (AreRegSend c.args.levels) (IsSpelling 64) c.args.bytes.now _ c.in_ok-fields.ensures c.in_err-message.ensures)

pub returns : goal.returns
returns c = both_some (AreRegSend c.args.levels) (IsSpelling 64) c.args.bytes.now _ _ c.in_ok-fields.ensures c.in_ok-message.ensures
