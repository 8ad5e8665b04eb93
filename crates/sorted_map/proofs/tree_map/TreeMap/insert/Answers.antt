use Rattle.std.proofs.Common.{rules, sym, ap, subst, ◌∙◌}
use Rattle.std.specs.FinMap.{find, put}
use Rattle.sorted_map.specs.Mapped.{AreEntries, by_key, present}
use Rattle.sorted_map.specs.Sides.{items_of}
use Rattle.sorted_map.proofs.Mapped.{to, inserted_there, not_some}
use Rattle.sorted_map.proofs.tree_map.TreeMap.insert.Goals as goal

pub invariant_of-self-2 : goal.invariant_of-self-2
invariant_of-self-2 g c =
    let root = ap items_of c.take-root.ensures.value in
    let here = ap (λ l. present l) root ∙ ap (λ h. h.entries) c.self.view_is in
    let none =
    ap (find g.K.Ord.cmp c.args.key) here ∙ sym c.get.ensures ∙ not_some _ (sym c.is_some.ensures ∙ c.if-is_some.false) in
    (inserted_there g.met.K.Ord.total c.args.key c.args.value (items_of c.take-root.result) c.inserted.result.value
    (subst (AreEntries g.K.Ord.cmp) (sym root) c.self.invariant) none
    (c.inserted.ensures (by_key (to g.K.Ord.cmp c.args.key)) (λ entry answer said. search rules))).0

pub returns-clause-entries : goal.returns-clause-entries
returns-clause-entries g c =
    let root = ap items_of c.take-root.ensures.value in
    let here = ap (λ l. present l) root ∙ ap (λ h. h.entries) c.self.view_is in
    let none =
    ap (find g.K.Ord.cmp c.args.key) here ∙ sym c.get.ensures ∙ not_some _ (sym c.is_some.ensures ∙ c.if-is_some.false) in
    (inserted_there g.met.K.Ord.total c.args.key c.args.value (items_of c.take-root.result) c.inserted.result.value
    (subst (AreEntries g.K.Ord.cmp) (sym root) c.self.invariant) none
    (c.inserted.ensures (by_key (to g.K.Ord.cmp c.args.key)) (λ entry answer said. search rules))).1
    ∙ ap (put g.K.Ord.cmp c.args.key c.args.value) here
