use Rattle.std.proofs.Common.{sym, ap, subst, ◌∙◌}
use Rattle.link_core.specs.Ends.{Held, end_of, with_end}
use Rattle.link_core.specs.Records.{AreRecords}
use Rattle.link_core.proofs.Maps.{records_changed, ends_changed}
use Rattle.link_core.proofs.ends.Ends.set.Goals as goal

pub invariant_of-self : goal.invariant_of-self
invariant_of-self c =
    subst AreRecords (sym c.change.ensures.entries) (records_changed _ c.args.partner.now c.args.end c.self.invariant c.requires.is)

pub returns-clause-ends : goal.returns-clause-ends
returns-clause-ends c =
    rw c.change.ensures.entries (ends_changed _ c.args.partner.now c.args.end c.self.invariant c.requires.is
    (λ h. c.requires.was (ap (λ (k : Held). end_of k.ends c.args.partner.now) (sym c.self.view_is) ∙ h)))
    ∙ ap (λ (k : Held). with_end k.ends c.args.partner.now c.args.end) c.self.view_is
