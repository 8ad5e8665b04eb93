use Rattle.std.proofs.Common.{rules}
use Rattle.std.specs.Prelude.{FitsSigned}
use Rattle.std.specs.Int.{w128}
use Rattle.std.proofs.lemmas.Int.{to_z-of_z}
use Rattle.erl_control.proofs.Sequence.{no_integer, natural_none, natural_some, natural_of, no_natural}
use Rattle.c_library.proofs.elements.natural_at.Goals as goal

pub returns-in_err-n : goal.returns-in_err-n
returns-in_err-n c = rw c.from_residual.ensures (no_integer c.args.levels c.args.bytes.now c.in_err-n.ensures)

pub returns-in-Ok : goal.returns-in-Ok
returns-in-Ok c =
    let fits : FitsSigned w128 c.in_ok-n.n = search rules in
    let n = natural_of c.in_ok-n.n _ c.in-Ok.natural (to_z-of_z w128 c.in_ok-n.n fits) c.in-Ok.ensures.0 c.in-Ok.ensures.1 in
    natural_some c.args.levels c.args.bytes.now (c.in_ok-n.n, c.in_ok-n.rest) c.in-Ok.natural c.in_ok-n.ensures n.0 n.1

pub returns-in-Err : goal.returns-in-Err
returns-in-Err c =
    let fits : FitsSigned w128 c.in_ok-n.n = search rules in
    natural_none c.args.levels c.args.bytes.now (c.in_ok-n.n, c.in_ok-n.rest) c.in_ok-n.ensures
    (no_natural c.in_ok-n.n _ (to_z-of_z w128 c.in_ok-n.n fits) c.in-Err.ensures)
