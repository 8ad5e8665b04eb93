use Rattle.std.proofs.lemmas.Result.{err_from_is_err_and}
use Rattle.erl_term.specs.View.{view}
use Rattle.script_terms.proofs.Whole.{refused, is_whole}
use Rattle.script_terms.proofs.reading.read_term.Goals as goal

pub returns-in_err-term : goal.returns-in_err-term
returns-in_err-term c = λ look knows.
    let p = err_from_is_err_and c.from_residual-in_err-term.result c.from_residual-in_err-term.ensures.1 in
    rw (p.1, p.2) (refused look c.args.text.now c.in_err-term.field-0.0 (c.in_ok-check_term.ensures look knows)
    (rw c.as_bytes.ensures.value at (c.in_err-term.ensures look knows)))

pub returns : goal.returns
returns c = λ look knows.
    rw c.new.ensures (is_whole look c.args.text.now (view c.in_ok-term.term) _ (c.in_ok-check_term.ensures look knows)
    (rw c.as_bytes.ensures.value at (c.in_ok-term.ensures look knows)))
