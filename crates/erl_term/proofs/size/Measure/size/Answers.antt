use Rattle.std.proofs.Common.{sym, ap, ◌∙◌}
use Rattle.erl_term.specs.Size.{size_of}
use Rattle.erl_term.proofs.Sizes.{size_byte, size_other, size_proper, size_improper}
use Rattle.erl_term.proofs.size.Measure.size.Goals as goal

pub returns-in-Byte : goal.returns-in-Byte
returns-in-Byte c = λ t e. (size_byte t c.args.self e c.in-Byte.is).0

pub returns-in-Other : goal.returns-in-Other
returns-in-Other c = λ t e. size_other t c.args.self c.in-Other.size e c.in-Other.is

pub returns-in-Proper : goal.returns-in-Proper
returns-in-Proper c = λ t e.
    let p = size_proper t c.args.self c.in-Proper.run' e c.in-Proper.is in
    c.list_size.ensures p.0 p.2 ∙ ap size_of (sym p.1)

pub returns-in-Improper : goal.returns-in-Improper
returns-in-Improper c = λ t e.
    let p = size_improper t c.args.self c.in-Improper.run' c.in-Improper.tail e c.in-Improper.is in
    c.improper_size.ensures p.0 p.1 p.3 p.4 ∙ ap size_of (sym p.2)
