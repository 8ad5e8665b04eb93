use Rattle.std.proofs.Common.{refl, sym, subst}
use Rattle.std.proofs.iter.Next.{says_at}
use Rattle.std.specs.Fn.{FnReturnsAt}
use Rattle.sorted_map.specs.Mapped.{AnswersAtKey}
use Rattle.sorted_map.proofs.tree_map.fn.TreeMap.first_at.told.Goals as goal

pub returns-in-Some : goal.returns-in-Some
returns-in-Some g c =
    subst (λ entry. AnswersAtKey (FnReturnsAt g.F.Fn c.captures.order_of) entry c.order_of.result) (sym c.in-Some.is)
    (says_at g.F.Fn c.order_of.ensures refl)
