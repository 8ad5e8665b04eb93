use Rattle.std.proofs.Common.{refl}
use Rattle.erl_term.specs.Data.{atom}
use Rattle.erl_term.proofs.Behind.{term_behind, no_term}
use Rattle.erl_term.proofs.parts.atom_at.Goals as goal

pub returns-in_err-bytes : goal.returns-in_err-bytes
returns-in_err-bytes c =
    let p = c.in_err-bytes.ensures in rw c.from_residual.ensures (no_term atom (λ x. refl) c.args.levels c.args.bytes.now p.0 p.1)

pub returns : goal.returns
returns c =
    term_behind atom (λ x. refl) c.args.levels _ c.args.bytes.now c.in_ok-bytes.bytes.now c.own_atom_at.result
    c.in_ok-bytes.ensures c.own_atom_at.ensures
