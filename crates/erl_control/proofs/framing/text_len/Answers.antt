use Rattle.std.proofs.Common.{[], arith, sym, subst}
use Rattle.erl_term.specs.Data.{atom}
use Rattle.erl_term.specs.Canonical.{IsInRange}
use Rattle.erl_control.specs.Control.{control_in}
use Rattle.erl_control.specs.Parts.{signal_of}
use Rattle.erl_control.proofs.Canonical.{send_in_range, send_len}
use Rattle.erl_control.proofs.framing.text_len.Goals as goal

pub returns-in_ok-len-in-Send-clause-len : goal.returns-in_ok-len-in-Send-clause-len
returns-in_ok-len-in-Send-clause-len c =
    let n = send_len c.in-Send.to.now c.in-Send.message.now c.args.payload in
    let a = c.opening_len-in-Send.ensures.len in
    let b = c.pid_len-in-Send.ensures.len in
    let m = c.in_ok-len-in-Send.ensures.len in
    rw c.in-Send.is (omega arith)

pub returns-in_ok-len-in-Send-clause-in_range : goal.returns-in_ok-len-in-Send-clause-in_range
returns-in_ok-len-in-Send-clause-in_range c =
    subst (λ s. IsInRange (control_in (atom []) (signal_of s) c.args.payload)) (sym c.in-Send.is)
    (send_in_range c.in-Send.to.now c.in-Send.message.now c.args.payload c.pid_len-in-Send.ensures.in_range)
