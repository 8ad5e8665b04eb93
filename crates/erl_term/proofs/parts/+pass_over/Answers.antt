use Rattle.std.proofs.Common.{◌≡◌, suc, rules}
use Rattle.erl_term.proofs.Behind.{passes_none, passes_more}
use Rattle.erl_term.proofs.parts.+pass_over.Goals as goal

pub returns-in_err-below : goal.returns-in_err-below
returns-in_err-below t c =
    let none : c.args.levels ≡ 0 = search rules in
    rw c.from_residual.ensures (passes_none c.args.levels c.args.bytes.now none)

pub returns-in-Some : goal.returns-in-Some
returns-in-Some t c =
    let more : c.args.levels ≡ suc c.in_ok-below.below = search rules in
    passes_more c.args.levels c.in_ok-below.below c.args.bytes.now c.in-Some.tail.now c.pass_over.result more
    c.in-Some.ensures.cases.0 c.in-Some.ensures.cases.1 c.pass_over.ensures
