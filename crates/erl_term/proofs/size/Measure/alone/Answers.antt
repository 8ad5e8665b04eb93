use Rattle.std.proofs.Common.{true, false, sym}
use Rattle.erl_term.proofs.Sizes.{size_byte, no_byte, alone_run}
use Rattle.erl_term.proofs.size.Measure.alone.Goals as goal

pub returns-in-Byte : goal.returns-in-Byte
returns-in-Byte c = λ t e. alone_run t c.size-size.result true (c.size-size.ensures t e) (sym (size_byte t c.args.self e c.in-Byte.is).1)

pub returns-in_default : goal.returns-in_default
returns-in_default c =
    λ t e. alone_run t c.size-size.result false (c.size-size.ensures t e) (sym (no_byte t c.args.self e c.in_default.not-Byte))
