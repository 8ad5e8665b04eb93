use Rattle.std.proofs.Common.{arith}
use Rattle.erl_term.specs.View.{view}
use Rattle.erl_term.proofs.Levels.{levels_fit}
use Rattle.erl_term.proofs.encoding.put_term.Goals as goal

pub returns-in_default-clause-room : goal.returns-in_default-clause-room
returns-in_default-clause-room c room =
    let none = c.in_default.ensures in
    let small = c.args.out.now.small in
    let fit = levels_fit (view c.args.term.now) in
    absurd (none (c.requires, omega arith, omega arith))
