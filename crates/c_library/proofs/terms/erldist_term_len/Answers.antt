use Rattle.std.proofs.Common.{Ok, Err, ap, ◌∙◌, sym, arith, refl}
use Rattle.c_library.proofs.Answered.{same_numbers}
use Rattle.c_library.proofs.terms.erldist_term_len.Goals as goal

pub returns-in-Ok-clause-due : goal.returns-in-Ok-clause-due
returns-in-Ok-clause-due c = let due = c.in-Ok.ensures.ok in (Ok (due.0, c.in-Ok.taken), due.1, refl)

pub returns-in-Ok-clause-only : goal.returns-in-Ok-clause-only
returns-in-Ok-clause-only c due is =
    let known = c.in-Ok.ensures.ok in
    same_numbers c.args.bytes.now (Ok (known.0, c.in-Ok.taken)) due (c.one_answer.ensures c.args.bytes.now (λ i. omega (arith, c.type_inv.bytes i))) known.1 is

pub returns-in-Err-clause-due : goal.returns-in-Err-clause-due
returns-in-Err-clause-due c =
    (Err c.in-Err.why, c.in-Err.ensures.err, ap (λ n. (n, 0)) (sym c.number.ensures ∙ sym c.from.ensures))

pub returns-in-Err-clause-only : goal.returns-in-Err-clause-only
returns-in-Err-clause-only c due is =
    same_numbers c.args.bytes.now (Err c.in-Err.why) due (c.one_answer.ensures c.args.bytes.now (λ i. omega (arith, c.type_inv.bytes i)))
    c.in-Err.ensures.err is ∙ ap (λ n. (n, 0)) (sym c.number.ensures ∙ sym c.from.ensures)
