use Rattle.std.proofs.Common.{◌+◌, ℕ, ap, ◌∙◌}
use Rattle.erl_term.specs.Size.{capped}
use Rattle.erl_term.proofs.Sizes.{tuple_measure}
use Rattle.erl_term.proofs.size.Run.tuple.Goals as goal

pub returns : goal.returns
returns c =
    λ ts e. tuple_measure ts c.args.self c.saturating_add.result c.saturating_add-2.result e
    (c.saturating_add.ensures ∙ ap (λ (n : ℕ). capped (c.args.self.len + n)) c.tuple_head_len.ensures.len) c.saturating_add-2.ensures
