use Rattle.std.proofs.Common.{arith}
use Rattle.erl_term.specs.Reading.{read_term}
use Rattle.erl_term.proofs.TermRefs.{short_enough, too_deep}
use Rattle.erl_term.proofs.term_ref.TermRef.is_within.Goals as goal

pub returns-then-self-levels : goal.returns-then-self-levels
returns-then-self-levels c =
    rw (← c.self.view_is) (short_enough (read_term c.self.inside.levels c.self.inside.bytes.now) c.self.inside.size
    c.args.levels c.args.most c.self.invariant c.if-self-levels.true (omega arith) (omega arith))

pub returns-else-self-levels : goal.returns-else-self-levels
returns-else-self-levels c =
    rw (← c.self.view_is) (too_deep (read_term c.self.inside.levels c.self.inside.bytes.now) c.self.inside.size c.args.levels
    c.args.most c.self.invariant c.if-self-levels.false (omega arith))
