use Rattle.std.proofs.Common.{◌≡◌, Bool, ap, sym, ◌∙◌}
use Rattle.std.specs.Prelude.{◌&&◌}
use Rattle.erl_term.proofs.Sizes.{then_run}
use Rattle.erl_term.proofs.size.Run.then.Goals as goal
use Rattle.erl_term.proofs.size.Run.then.Goals.{then-self, else-self}

pub returns : goal.returns
returns c =
    let both : c.if-self.result ≡ (c.args.self.are_bytes && c.args.more.are_bytes) =
    elim c.if-self.branch [
      | then-self w ↦ w.result-is ∙ ap (λ (b : Bool). b && c.args.more.are_bytes) (sym w.if-self.true)
      | else-self w ↦ w.result-is ∙ w.if-self.false ∙ ap (λ (b : Bool). b && c.args.more.are_bytes) (sym w.if-self.false)
    ] in
    λ ts us e f. then_run ts us c.args.self c.args.more c.saturating_add.result c.if-self.result c.saturating_add-2.result
    c.max.result e f c.saturating_add.ensures both c.saturating_add-2.ensures c.max.ensures
