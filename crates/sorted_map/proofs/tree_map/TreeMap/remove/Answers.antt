use Rattle.std.proofs.Common.{rules, sym, ap, subst, ◌∙◌}
use Rattle.std.specs.FinMap.{find}
use Rattle.sorted_map.specs.Entries.{without}
use Rattle.sorted_map.specs.Mapped.{AreEntries, by_key, present}
use Rattle.sorted_map.specs.Sides.{items_of}
use Rattle.sorted_map.proofs.Mapped.{to, removed_there}
use Rattle.sorted_map.proofs.tree_map.TreeMap.remove.Goals as goal

pub invariant_of-self : goal.invariant_of-self
invariant_of-self g c =
    let key = c.args.key.now in
    let root = ap items_of c.take.ensures.value in
    (removed_there g.met.K.Ord.total key (items_of c.take.result) (items_of c.removed-root.result.0) c.removed-root.result.1
    (subst (AreEntries g.K.Ord.cmp) (sym root) c.self.invariant)
    (c.removed-root.ensures (by_key (to g.K.Ord.cmp key)) (λ entry answer said. search rules))).0

pub returns-clause-entries : goal.returns-clause-entries
returns-clause-entries g c =
    let key = c.args.key.now in
    let root = ap items_of c.take.ensures.value in
    let here = ap (λ l. present l) root ∙ ap (λ h. h.entries) c.self.view_is in
    (removed_there g.met.K.Ord.total key (items_of c.take.result) (items_of c.removed-root.result.0) c.removed-root.result.1
    (subst (AreEntries g.K.Ord.cmp) (sym root) c.self.invariant)
    (c.removed-root.ensures (by_key (to g.K.Ord.cmp key)) (λ entry answer said. search rules))).1.0
    ∙ ap (without g.K.Ord.cmp key) here

pub returns-clause-before : goal.returns-clause-before
returns-clause-before g c =
    let key = c.args.key.now in
    let root = ap items_of c.take.ensures.value in
    let here = ap (λ l. present l) root ∙ ap (λ h. h.entries) c.self.view_is in
    c.value_in.ensures
    ∙ (removed_there g.met.K.Ord.total key (items_of c.take.result) (items_of c.removed-root.result.0) c.removed-root.result.1
    (subst (AreEntries g.K.Ord.cmp) (sym root) c.self.invariant)
    (c.removed-root.ensures (by_key (to g.K.Ord.cmp key)) (λ entry answer said. search rules))).1.1
    ∙ ap (find g.K.Ord.cmp key) here
