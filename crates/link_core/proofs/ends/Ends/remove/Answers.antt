use Rattle.std.proofs.Common.{sym, ap, subst, ◌∙◌}
use Rattle.link_core.specs.declared.end.End.TheVariants as End
use Rattle.link_core.specs.Ends.{Held, with_end}
use Rattle.link_core.specs.Records.{AreRecords}
use Rattle.link_core.proofs.Maps.{records_without, ends_without}
use Rattle.link_core.proofs.ends.Ends.remove.Goals as goal

pub invariant_of-self : goal.invariant_of-self
invariant_of-self c = subst AreRecords (sym c.remove.ensures.entries) (records_without _ c.args.partner.now c.self.invariant)

pub returns-clause-ends : goal.returns-clause-ends
returns-clause-ends c =
    rw c.remove.ensures.entries (ends_without _ c.args.partner.now c.self.invariant)
    ∙ ap (λ (k : Held). with_end k.ends c.args.partner.now End.None) c.self.view_is
