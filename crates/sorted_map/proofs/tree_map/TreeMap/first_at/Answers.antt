use Rattle.std.proofs.Common.{rules, sym, ap, subst, ◌∙◌, not}
use Rattle.std.specs.Fn.{FnReturnsAt}
use Rattle.std.specs.Option.{option_copied}
use Rattle.std.specs.Ordering.{is_lt}
use Rattle.sorted_map.specs.Entries.{first_where}
use Rattle.sorted_map.specs.Indexed.{IsParted}
use Rattle.sorted_map.specs.Mapped.{by_key}
use Rattle.sorted_map.specs.Sides.{items_of}
use Rattle.sorted_map.proofs.Mapped.{told_there, found_there, out_of}
use Rattle.sorted_map.proofs.tree_map.TreeMap.first_at.Goals as goal

pub returns-in_err-first_from-clause-first : goal.returns-in_err-first_from-clause-first
returns-in_err-first_from-clause-first g c order tells parted =
    let here = ap (λ h. h.entries) c.self.view_is in
    let found =
    found_there order (items_of c.self.inside.root) (option_copied c.first_from.result) c.self.invariant.0
    (c.first_from.ensures (by_key order) (λ entry answer said. told_there (FnReturnsAt g.F.Fn c.args.order_of) order tells entry said.shown.now answer said.shows (search rules)))
    (subst (IsParted (λ x. order x.0)) (sym here) parted) in
    ap option_copied c.from_residual.ensures ∙ sym (ap (λ o. out_of (option_copied o)) c.in_err-first_from.was) ∙ found
    ∙ ap (first_where (λ key _. not (is_lt (order key)))) here

pub returns-clause-first : goal.returns-clause-first
returns-clause-first g c order tells parted =
    let here = ap (λ h. h.entries) c.self.view_is in
    let found =
    found_there order (items_of c.self.inside.root) (option_copied c.first_from.result) c.self.invariant.0
    (c.first_from.ensures (by_key order) (λ entry answer said. told_there (FnReturnsAt g.F.Fn c.args.order_of) order tells entry said.shown.now answer said.shows (search rules)))
    (subst (IsParted (λ x. order x.0)) (sym here) parted) in
    c.as_ref.ensures.value ∙ sym (ap (λ o. out_of (option_copied o)) c.in_ok-first_from.was) ∙ found
    ∙ ap (first_where (λ key _. not (is_lt (order key)))) here
