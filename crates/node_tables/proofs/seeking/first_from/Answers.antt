use Rattle.std.proofs.Common.{ℕ, length, Option, IfNone, subst, sym, arith, rules}
use Rattle.node_tables.proofs.Found.{is_rest, linked_behind, linked_within, none_behind}
use Rattle.node_tables.specs.Linked.{NoneLinked}
use Rattle.node_tables.proofs.seeking.first_from.Goals as goal

pub returns-in_err-at-clause-none : goal.returns-in_err-at-clause-none
returns-in_err-at-clause-none c =
    let lives = c.args.lives.now in
    let P : Option ℕ → Type 0 = (λ r. IfNone r (NoneLinked c.args.node.now lives c.args.from (length lives))) in
    subst P (sym c.from_residual-in_err-at.ensures)
    (none_behind c.args.node.now lives _ c.args.from (is_rest c.args.from _ _ c.in_ok-rest.ensures.lookup.0.2) c.in_err-at.ensures.none)

pub overflow_add-result : goal.overflow_add-result
overflow_add-result c =
    let within =
    linked_within c.args.node.now c.args.lives.now c.args.from _ (linked_behind c.args.node.now c.args.lives.now _
    c.args.from c.in_ok-at.at (is_rest c.args.from _ _ c.in_ok-rest.ensures.lookup.0.2) c.in_ok-at.ensures.at) in
    search (arith, rules)

pub returns-clause-at : goal.returns-clause-at
returns-clause-at c =
    linked_behind c.args.node.now c.args.lives.now _ c.args.from c.in_ok-at.at
    (is_rest c.args.from _ _ c.in_ok-rest.ensures.lookup.0.2) c.in_ok-at.ensures.at

pub returns-clause-within : goal.returns-clause-within
returns-clause-within c =
    linked_within c.args.node.now c.args.lives.now c.args.from _ (linked_behind c.args.node.now c.args.lives.now _ c.args.from c.in_ok-at.at
    (is_rest c.args.from _ _ c.in_ok-rest.ensures.lookup.0.2) c.in_ok-at.ensures.at)
