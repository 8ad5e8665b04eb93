use Rattle.std.proofs.Common.{string_bytes}
use Rattle.script_core.proofs.Merging.{bad_line_at, only_failed, ran_line}
use Rattle.script_core.proofs.threads.run_line.Goals as goal

pub returns-in-Ok : goal.returns-in-Ok
returns-in-Ok g c = λ known h.
    ran_line known c.args.line.now c.args.number c.line.new.self (string_bytes c.new-out.result) (string_bytes c.line.new.out)
    c.line.result c.in-Ok.field-0 c.write_bytes.result c.in-Ok.is (c.line.ensures known h) (only_failed _ c.write_bytes.result c.write_bytes.ensures.err)

pub returns-in-Err-Bad : goal.returns-in-Err-Bad
returns-in-Err-Bad g c = λ known h.
    bad_line_at known c.args.line.now c.args.number c.line.new.self (string_bytes c.new-out.result) (string_bytes c.line.new.out)
    c.line.result c.in-Err-Bad.field-0 c.in-Err-Bad.reason c.in-Err-Bad.is c.in-Err-Bad.field-0-is (c.line.ensures known h)
