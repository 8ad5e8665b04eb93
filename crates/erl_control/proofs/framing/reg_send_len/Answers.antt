use Rattle.std.proofs.Common.{false, arith}
use Rattle.erl_control.proofs.Canonical.{reg_send_in_range, reg_send_len}
use Rattle.erl_control.proofs.framing.reg_send_len.Goals as goal

pub returns-clause-len : goal.returns-clause-len
returns-clause-len c =
    let n = reg_send_len c.args.from.now c.args.name.now c.args.message.now false in
    let a = c.opening_len.ensures.len in
    let b = c.pid_len.ensures.len in
    let d = c.atom_len.ensures.len in
    let m = c.in_ok-len.ensures.len in
    omega arith

pub returns-clause-in_range : goal.returns-clause-in_range
returns-clause-in_range c =
    reg_send_in_range c.args.from.now c.args.name.now c.args.message.now false c.pid_len.ensures.in_range c.atom_len.ensures.in_range
