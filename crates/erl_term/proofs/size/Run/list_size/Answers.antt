use Rattle.std.proofs.Common.{arith}
use Rattle.erl_term.proofs.Sizes.{empty_size, string_size, other_items_size, many_items_size}
use Rattle.erl_term.proofs.size.Run.list_size.Goals as goal
use Rattle.erl_term.proofs.size.Run.list_size.Goals.{else-self-via-then-self+else-self-lt65536, else-self-via-else-self}

pub returns-then-self-eq0 : goal.returns-then-self-eq0
returns-then-self-eq0 c = λ ts e. empty_size ts c.args.self e c.if-self-eq0.true

pub returns-then-self-lt65536 : goal.returns-then-self-lt65536
returns-then-self-lt65536 c = λ ts e. string_size ts c.args.self e (omega arith) c.if-self.true c.if-self-lt65536.true

pub returns : goal.returns
returns c = λ ts e.
    elim c.else-self.branch [
      | else-self-via-then-self+else-self-lt65536 w ↦
          many_items_size ts c.args.self c.saturating_add.result c.saturating_add-2.result e w.if-self-lt65536.false
          c.saturating_add.ensures c.saturating_add-2.ensures
      | else-self-via-else-self w ↦
          other_items_size ts c.args.self c.saturating_add.result c.saturating_add-2.result e
          (omega arith) w.if-self.false c.saturating_add.ensures c.saturating_add-2.ensures
    ]
