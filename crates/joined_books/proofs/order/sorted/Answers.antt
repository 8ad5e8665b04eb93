use Rattle.std.proofs.Common.{ℕ, rules}
use Rattle.std.proofs.lemmas.List.Sorted.{answers_always}
use Rattle.joined_books.specs.declared.trace.Placed.{Placed}
use Rattle.joined_books.proofs.order.sorted.Goals as goal

pub returns-clause-order : goal.returns-clause-order
returns-clause-order c =
    let key : Placed → ℕ × ℕ = λ x. (x.stamp, x.node) in
    c.sort_unstable_by_key.ensures.sorted key (answers_always _ _ _ (λ f a r g h. search rules))
