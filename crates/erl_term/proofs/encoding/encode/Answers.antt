use Rattle.std.proofs.Common.{◌≤◌, length, arith, refl}
use Rattle.erl_term.specs.Canonical.{canonical}
use Rattle.erl_term.specs.Limits.{limit}
use Rattle.erl_term.specs.View.{view}
use Rattle.erl_term.proofs.encoding.encode.Goals as goal

pub returns-in_default-clause-too_long : goal.returns-in_default-clause-too_long
returns-in_default-clause-too_long c =
    let none = c.in_default.ensures in
    let why = c.refusal_of.ensures.too_long in (
      λ e. let h = why.0 cc in
          let long : length (canonical (view c.args.term.now)) ≤ limit → ⊥ = λ short. none (h.0, h.1, short) in
          (h.0, h.1, omega arith),
      λ h. rw (why.1 (h.0, h.1)) refl,
    )
