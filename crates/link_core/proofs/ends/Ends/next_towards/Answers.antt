use Rattle.std.proofs.Common.{◌≡◌, Some, None, sym, ap, ◌∙◌, rules}
use Rattle.std.specs.FinMap as map
use Rattle.std.specs.Option.{option_copied}
use Rattle.sorted_map.proofs.Mapped.{rising_parted}
use Rattle.erl_term.specs.Order.{pid_cmp}
use Rattle.link_core.specs.Ends.{Held}
use Rattle.link_core.proofs.Towards.{next_at, next_is, stands, stands_rise, this_node}
use Rattle.link_core.proofs.ends.Ends.next_towards.Goals as goal

pub returns-in_err-record : goal.returns-in_err-record
returns-in_err-record c =
    let n = c.args.node.now in
    let p = c.args.partner.now in
    let rs = c.self.inside.records.entries in
    let here =
    sym (map.entries-from_sorted pid_cmp _ c.self.invariant.sorted) ∙ ap (λ (k : Held). map.entries k.ends) c.self.view_is in
    let found =
    c.first_at.ensures.first (stands p n) (λ partner answer said. search rules)
    (rising_parted (stands p n) (stands_rise p n) rs c.self.invariant.sorted) in
    ap option_copied c.from_residual.ensures ∙ sym (ap (λ o. this_node n (option_copied o)) c.in_err-record.was)
    ∙ ap (this_node n) found ∙ next_is p n rs c.self.invariant.sorted ∙ ap (next_at p n) here

pub returns-then-is_eq : goal.returns-then-is_eq
returns-then-is_eq c =
    let n = c.args.node.now in
    let p = c.args.partner.now in
    let rs = c.self.inside.records.entries in
    let here =
    sym (map.entries-from_sorted pid_cmp _ c.self.invariant.sorted) ∙ ap (λ (k : Held). map.entries k.ends) c.self.view_is in
    let found =
    c.first_at.ensures.first (stands p n) (λ partner answer said. search rules)
    (rising_parted (stands p n) (stands_rise p n) rs c.self.invariant.sorted) in
    let at : this_node n (Some c.in_ok-record.record.now) ≡ Some c.in_ok-record.record.now = search rules in
    sym at ∙ sym (ap (λ o. this_node n (option_copied o)) c.in_ok-record.was)
    ∙ ap (this_node n) found ∙ next_is p n rs c.self.invariant.sorted ∙ ap (next_at p n) here

pub returns-else-is_eq : goal.returns-else-is_eq
returns-else-is_eq c =
    let n = c.args.node.now in
    let p = c.args.partner.now in
    let rs = c.self.inside.records.entries in
    let here =
    sym (map.entries-from_sorted pid_cmp _ c.self.invariant.sorted) ∙ ap (λ (k : Held). map.entries k.ends) c.self.view_is in
    let found =
    c.first_at.ensures.first (stands p n) (λ partner answer said. search rules)
    (rising_parted (stands p n) (stands_rise p n) rs c.self.invariant.sorted) in
    let at : this_node n (Some c.in_ok-record.record.now) ≡ None = search rules in
    sym at ∙ sym (ap (λ o. this_node n (option_copied o)) c.in_ok-record.was)
    ∙ ap (this_node n) found ∙ next_is p n rs c.self.invariant.sorted ∙ ap (next_at p n) here
