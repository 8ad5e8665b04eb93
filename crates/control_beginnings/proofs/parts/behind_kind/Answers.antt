use Rattle.control_beginnings.proofs.Kindred.{pid_at, name_at, reference_at}
use Rattle.control_beginnings.proofs.parts.behind_kind.Goals as goal

pub returns-in_err-rest-in-Pid : goal.returns-in_err-rest-in-Pid
returns-in_err-rest-in-Pid c =
    rw c.from_residual.ensures (λ text rest s p.
    let t = pid_at c.args.levels c.args.kind text c.in-Pid.is s in c.in_err-rest-in-Pid.ensures.again t.0 text rest t.1 p)

pub returns-in_err-rest-in-Name : goal.returns-in_err-rest-in-Name
returns-in_err-rest-in-Name c =
    rw c.from_residual-in_err-rest-in-Name.ensures (λ text rest s p.
    let t = name_at c.args.levels c.args.kind text c.in-Name.is s in c.in_err-rest-in-Name.ensures.again t.0 text rest t.1 p)

pub returns-in_err-rest-in-Reference : goal.returns-in_err-rest-in-Reference
returns-in_err-rest-in-Reference c =
    rw c.from_residual-in_err-rest-in-Reference.ensures (λ text rest s p.
    let t = reference_at c.args.levels c.args.kind text c.in-Reference.is s in c.in_err-rest-in-Reference.ensures.again t.0 text rest t.1 p)
