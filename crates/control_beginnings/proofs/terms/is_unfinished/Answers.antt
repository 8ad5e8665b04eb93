use Rattle.std.proofs.Common.{sym, subst}
use Rattle.control_beginnings.specs.Parts.{IsUnfinished}
use Rattle.control_beginnings.proofs.Wrapping.{unfinished, no_term_due}
use Rattle.control_beginnings.proofs.terms.is_unfinished.Goals as goal

pub returns-in-Ok : goal.returns-in-Ok
returns-in-Ok c = no_term_due c.args.bytes.now _ c.in-Ok.ensures.ok

pub returns-in-Err : goal.returns-in-Err
returns-in-Err c =
    subst (IsUnfinished c.args.bytes.now) (sym c.is_open.ensures) (unfinished c.args.bytes.now c.in-Err.error c.in-Err.ensures.err)
