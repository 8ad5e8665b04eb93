use Rattle.std.proofs.Common.{◌≡◌, Ok, Err, sym, ◌∙◌, arith}
use Rattle.std.proofs.lemmas.Result.{err_from_is_err_and}
use Rattle.erl_term.specs.declared.error.TermError.TheVariants.{OutOfMemory}
use Rattle.erl_term.proofs.DueAnswers.{read_due, only_read, scanned_due, scanned_only, scanned_term, memory_never, is_err_of}
use Rattle.erl_term.proofs.decoding.decode.Goals as goal
use Rattle.erl_term.proofs.decoding.decode.Goals.{then-is_out_of_memory+in_ok-scanned-in-Err, else-is_out_of_memory}

pub returns-in_err-scanned-in-Err-clause-err : goal.returns-in_err-scanned-in-Err-clause-err
returns-in_err-scanned-in-Err-clause-err c =
    let p = err_from_is_err_and c.from_residual.result c.from_residual.ensures.1 in
    rw (p.1, p.2) (λ known. scanned_due c.args.bytes.now c.in_err-scanned-in-Err.field-0.0
    (λ i. omega (arith, c.type_inv.bytes i)) c.in_err-scanned-in-Err.ensures)

pub returns-in_err-scanned-in-Err-clause-only : goal.returns-in_err-scanned-in-Err-clause-only
returns-in_err-scanned-in-Err-clause-only c =
    let p = err_from_is_err_and c.from_residual.result c.from_residual.ensures.1 in
    rw (p.1, p.2) (λ due d known. scanned_only c.args.bytes.now c.in_err-scanned-in-Err.field-0.0 due
    (λ i. omega (arith, c.type_inv.bytes i)) c.in_err-scanned-in-Err.ensures d)

pub returns-in_err-scanned-in-Err-clause-memory : goal.returns-in_err-scanned-in-Err-clause-memory
returns-in_err-scanned-in-Err-clause-memory c =
    let p = err_from_is_err_and c.from_residual.result c.from_residual.ensures.1 in
    let d =
    scanned_due c.args.bytes.now c.in_err-scanned-in-Err.field-0.0
    (λ i. omega (arith, c.type_inv.bytes i)) c.in_err-scanned-in-Err.ensures in
    λ e. absurd (memory_never c.args.bytes.now c.in_err-scanned-in-Err.field-0.0 d (let q = sym e ∙ p.1 in cc))

pub returns-in-Ok-clause-ok : goal.returns-in-Ok-clause-ok
returns-in-Ok-clause-ok c = read_due c.args.bytes.now (Ok _) (λ i. omega (arith, c.type_inv.bytes i)) c.in-Ok.ensures

pub returns-in-Ok-clause-only : goal.returns-in-Ok-clause-only
returns-in-Ok-clause-only c = λ due d. only_read c.args.bytes.now (Ok _) due (λ i. omega (arith, c.type_inv.bytes i)) d c.in-Ok.ensures

pub returns-after-is_out_of_memory-clause-err : goal.returns-after-is_out_of_memory-clause-err
returns-after-is_out_of_memory-clause-err c =
    λ known. read_due c.args.bytes.now (Err c.in-Err.e) (λ i. omega (arith, c.type_inv.bytes i)) (c.in-Err.ensures known)

pub returns-after-is_out_of_memory-clause-only : goal.returns-after-is_out_of_memory-clause-only
returns-after-is_out_of_memory-clause-only c =
    λ due d known. only_read c.args.bytes.now (Err c.in-Err.e) due (λ i. omega (arith, c.type_inv.bytes i)) d (c.in-Err.ensures known)

pub returns-after-is_out_of_memory-clause-memory : goal.returns-after-is_out_of_memory-clause-memory
returns-after-is_out_of_memory-clause-memory c = λ q.
    elim c.if-is_out_of_memory.branch [
      | then-is_out_of_memory+in_ok-scanned-in-Err w ↦
          scanned_term c.args.bytes.now _ (λ i. omega (arith, c.type_inv.bytes i)) w.in_ok-scanned-in-Err.ensures
      | else-is_out_of_memory w ↦
          absurd (let e : c.in-Err.e ≡ OutOfMemory = is_err_of c.in-Err.e q in let k = c.is_out_of_memory.ensures.1 e in
          let f = w.if-is_out_of_memory.false in cc)
    ]
