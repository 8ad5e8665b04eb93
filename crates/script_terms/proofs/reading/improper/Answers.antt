use Rattle.std.proofs.Common.{refl, ap, ◌∙◌}
use Rattle.std.specs.Prelude.{Some}
use Rattle.erl_term.specs.Data.{improper}
use Rattle.erl_term.specs.declared.term.Term.TheVariants as term
use Rattle.erl_term.specs.View.{view, items_view}
use Rattle.erl_term.proofs.Terms.{view-improper}
use Rattle.script_terms.proofs.reading.improper.Goals as goal

pub returns : goal.returns
returns c =
    view-improper (term.List c.args.items (Some c.in_ok-tail.tail)) c.args.items (Some c.in_ok-tail.tail) c.in_ok-tail.tail refl refl
    ∙ ap (improper (items_view c.args.items.items)) (ap view c.in_ok-tail.ensures.ok)
