use Rattle.std.proofs.Common.{arith}
use Rattle.erl_term.proofs.Sizes.{join_proper, join_improper, join_alone, join_behind, not_list}
use Rattle.erl_term.proofs.size.Run.join.Goals as goal

pub returns-in-Proper : goal.returns-in-Proper
returns-in-Proper c =
    λ ts t e f.
    join_proper ts t c.args.self c.in-Proper.more c.then.result c.args.tail e f c.in-Proper.is (λ us g. c.then.ensures ts us e g)

pub returns-in-Improper : goal.returns-in-Improper
returns-in-Improper c =
    λ ts t e f.
    join_improper ts t c.args.self c.in-Improper.more c.then-in-Improper.result c.in-Improper.last c.args.tail e f c.in-Improper.is
    (λ us g. c.then-in-Improper.ensures ts us e g)

pub returns-then-self-eq0 : goal.returns-then-self-eq0
returns-then-self-eq0 c =
    λ ts t e f. join_alone ts t c.args.self c.args.tail e f c.if-self-eq0.true
    (not_list t c.args.tail f c.in_default.not-Proper c.in_default.not-Improper)

pub returns-else-self-eq0 : goal.returns-else-self-eq0
returns-else-self-eq0 c =
    λ ts t e f. join_behind ts t c.args.self c.size.result e (c.size.ensures t f) (omega arith)
    (not_list t c.args.tail f c.in_default.not-Proper c.in_default.not-Improper)
