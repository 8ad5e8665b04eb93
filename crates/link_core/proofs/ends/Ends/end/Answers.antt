use Rattle.std.proofs.Common.{sym, ap, ◌∙◌, unwrap_or}
use Rattle.link_core.specs.declared.end.End.TheVariants as End
use Rattle.link_core.specs.Ends.{Held, end_of}
use Rattle.link_core.proofs.Maps.{end_here, put_again}
use Rattle.link_core.proofs.ends.Ends.end.Goals as goal

pub returns-clause-end : goal.returns-clause-end
returns-clause-end c =
    c.unwrap_or.ensures ∙ ap (λ o. unwrap_or o End.None) (c.copied.ensures ∙ c.get.ensures)
    ∙ sym (end_here _ c.args.partner.now c.self.invariant) ∙ ap (λ (k : Held). end_of k.ends c.args.partner.now) c.self.view_is

pub returns-clause-set_again : goal.returns-clause-set_again
returns-clause-set_again c =
    rw (c.unwrap_or.ensures, c.copied.ensures, c.get.ensures, ← c.self.view_is) (put_again _ c.args.partner.now c.self.invariant)
