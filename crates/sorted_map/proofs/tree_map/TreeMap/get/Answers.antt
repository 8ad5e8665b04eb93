use Rattle.std.proofs.Common.{rules, sym, ap, cond, Some, None, ◌∙◌}
use Rattle.std.specs.Option.{option_copied}
use Rattle.std.specs.Ordering.{is_eq}
use Rattle.sorted_map.proofs.Mapped.{to, sorted_parted, find_by_first, tied_value}
use Rattle.sorted_map.proofs.tree_map.TreeMap.get.Goals as goal

pub returns-in_err-held : goal.returns-in_err-held
returns-in_err-held g c =
    let entries = c.args.self.now.entries in
    let key = c.args.key.now in
    let found =
    c.first_at.ensures.first (to g.K.Ord.cmp key) (λ held answer said. search rules)
    (sorted_parted g.met.K.Ord.total key entries c.first_at.ensures.sorted) in
    ap option_copied c.from_residual.ensures ∙ sym (ap (λ o. tied_value g.met.K.Ord.total key (option_copied o)) c.in_err-held.was)
    ∙ ap (tied_value g.met.K.Ord.total key) found ∙ find_by_first g.met.K.Ord.total key entries c.first_at.ensures.sorted

pub returns-then-is_eq : goal.returns-then-is_eq
returns-then-is_eq g c =
    let entries = c.args.self.now.entries in
    let key = c.args.key.now in
    let found =
    c.first_at.ensures.first (to g.K.Ord.cmp key) (λ held answer said. search rules)
    (sorted_parted g.met.K.Ord.total key entries c.first_at.ensures.sorted) in
    let entry = c.in_ok-held.field-0.now in
    sym (ap (λ b. cond b (Some entry.1) None) (sym (ap is_eq c.cmp.ensures) ∙ sym c.if-is_eq.ensures))
    ∙ sym (ap (λ o. tied_value g.met.K.Ord.total key (option_copied o)) c.in_ok-held.was)
    ∙ ap (tied_value g.met.K.Ord.total key) found ∙ find_by_first g.met.K.Ord.total key entries c.first_at.ensures.sorted

pub returns-else-is_eq : goal.returns-else-is_eq
returns-else-is_eq g c =
    let entries = c.args.self.now.entries in
    let key = c.args.key.now in
    let found =
    c.first_at.ensures.first (to g.K.Ord.cmp key) (λ held answer said. search rules)
    (sorted_parted g.met.K.Ord.total key entries c.first_at.ensures.sorted) in
    let entry = c.in_ok-held.field-0.now in
    sym (ap (λ b. cond b (Some entry.1) None) (sym (ap is_eq c.cmp.ensures) ∙ sym c.if-is_eq.ensures))
    ∙ sym (ap (λ o. tied_value g.met.K.Ord.total key (option_copied o)) c.in_ok-held.was)
    ∙ ap (tied_value g.met.K.Ord.total key) found ∙ find_by_first g.met.K.Ord.total key entries c.first_at.ensures.sorted
