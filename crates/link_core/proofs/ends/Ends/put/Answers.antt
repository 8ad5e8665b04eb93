use Rattle.std.proofs.Common.{sym, ap, subst, ◌∙◌}
use Rattle.link_core.specs.Ends.{Held, end_of, with_end}
use Rattle.link_core.specs.Records.{AreRecords}
use Rattle.link_core.proofs.Maps.{records_put, ends_put, none_where_not_found, on_err}
use Rattle.link_core.proofs.ends.Ends.put.Goals as goal

pub returns-in_err-insert-clause-only_new : goal.returns-in_err-insert-clause-only_new
returns-in_err-insert-clause-only_new c =
    let none = none_where_not_found _ c.args.partner c.self.invariant (λ h. let no = c.in_err-insert.ensures.held h in cc) in
    on_err _ c.from_residual.result (ap (λ (k : Held). end_of k.ends c.args.partner) (sym c.self.view_is) ∙ none)

pub invariant_of-self-2 : goal.invariant_of-self-2
invariant_of-self-2 c =
    subst AreRecords (sym c.in_ok-insert.ensures.entries) (records_put _ c.args.partner c.args.end c.self.invariant c.requires)

pub returns-clause-ok : goal.returns-clause-ok
returns-clause-ok c =
    rw c.in_ok-insert.ensures.entries (ends_put _ c.args.partner c.args.end c.self.invariant c.requires)
    ∙ ap (λ (k : Held). with_end k.ends c.args.partner c.args.end) c.self.view_is
