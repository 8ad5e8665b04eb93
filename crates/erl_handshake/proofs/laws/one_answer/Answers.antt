use Rattle.erl_handshake.proofs.Dues.{some_due, due_once}
use Rattle.erl_handshake.proofs.laws.one_answer.Goals as goal

pub returns-clause-due : goal.returns-clause-due
returns-clause-due c = some_due

pub returns-clause-once : goal.returns-clause-once
returns-clause-once c = due_once
