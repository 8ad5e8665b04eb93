use Rattle.std.proofs.Common.{arith}
use Rattle.erl_term.proofs.DueAnswers.{len_due, len_err_due}
use Rattle.erl_term.proofs.decoding.term_len.Goals as goal

pub returns-clause-ok : goal.returns-clause-ok
returns-clause-ok c = len_due c.args.bytes.now c.scanned.result (λ i. omega (arith, c.type_inv.bytes i)) c.scanned.ensures

pub returns-clause-err : goal.returns-clause-err
returns-clause-err c = len_err_due c.args.bytes.now c.scanned.result (λ i. omega (arith, c.type_inv.bytes i)) c.scanned.ensures
