use Rattle.std.proofs.lemmas.Result.{IfOk-weaker}
use Rattle.vector_tests.proofs.Decoded.{no_term, term_read}
use Rattle.vector_tests.proofs.terms.answer.Goals as goal

pub returns-in-Ok : goal.returns-in-Ok
returns-in-Ok c =
    IfOk-weaker c.read.result _ _
    (λ text reading. term_read _ _ _ _ c.in-Ok.ensures.only c.front.ensures reading) c.read.ensures

pub returns-in-Err : goal.returns-in-Err
returns-in-Err c =
    IfOk-weaker c.refused.result _ _
    (λ text known. no_term _ _ _ (λ due d. c.in-Err.ensures.only due d known)) c.refused.ensures
