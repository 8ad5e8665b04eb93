use Rattle.std.proofs.Common.{◌≡◌, rules, None, sym, ap, subst, ◌∙◌}
use Rattle.std.specs.Option.{option_copied}
use Rattle.sorted_map.specs.Indexed.{Indexed, IsParted, first_not_less}
use Rattle.monitor_core.specs.Slots.{held_at, holds}
use Rattle.monitor_core.specs.Sought.{IsNext, meets, slot_place}
use Rattle.monitor_core.specs.Trees.{tree_of}
use Rattle.monitor_core.proofs.Among.{tree_is, sought_parted, none_found, found_met, found_not_met, found_holds, never_holds}
use Rattle.monitor_core.proofs.trees.Trees.next.Goals as goal

pub returns-in_err-found : goal.returns-in_err-found
returns-in_err-found g c =
    let behind = option_copied c.args.behind in
    let slots = c.args.slots.now.slots in
    let sought = c.args.sought.now in
    let tree = (tree_of sought c.args.self.now).slots in
    let place = slot_place g.M.Kept.process_of g.M.Kept.node_of sought behind slots in
    let is = tree_is _ _ slots (holds slots) c.args.self.now sought c.requires in
    let here = ap (λ (t : Indexed). t.slots) c.tree.ensures in
    let answer : c.first_not_less.result ≡ first_not_less place tree =
    c.first_not_less.ensures place (λ s a fits gives. search rules)
    (subst (IsParted place) (sym here) (sought_parted _ _ sought behind slots (holds slots) tree is))
    ∙ ap (first_not_less place) here in
    subst (IsNext (meets g.M.Kept.process_of g.M.Kept.node_of sought behind) slots) (sym c.from_residual.ensures)
    (none_found _ _ sought behind slots tree is (sym answer ∙ c.in_err-found.was))

pub returns-then-is_met : goal.returns-then-is_met
returns-then-is_met g c =
    let behind = option_copied c.args.behind in
    let slots = c.args.slots.now.slots in
    let sought = c.args.sought.now in
    let tree = (tree_of sought c.args.self.now).slots in
    let place = slot_place g.M.Kept.process_of g.M.Kept.node_of sought behind slots in
    let is = tree_is _ _ slots (holds slots) c.args.self.now sought c.requires in
    let here = ap (λ (t : Indexed). t.slots) c.tree.ensures in
    let answer : c.first_not_less.result ≡ first_not_less place tree =
    c.first_not_less.ensures place (λ s a fits gives. search rules)
    (subst (IsParted place) (sym here) (sought_parted _ _ sought behind slots (holds slots) tree is))
    ∙ ap (first_not_less place) here in
    found_met _ _ sought behind slots tree is c.in_ok-found.found c.in_ok-entry.entry.now (sym answer ∙ c.in_ok-found.was)
    (sym c.get.ensures ∙ ap option_copied c.in_ok-entry.was) (sym c.is_met-is_met.ensures ∙ c.if-is_met.true)

pub returns-else-is_met : goal.returns-else-is_met
returns-else-is_met g c =
    let behind = option_copied c.args.behind in
    let slots = c.args.slots.now.slots in
    let sought = c.args.sought.now in
    let tree = (tree_of sought c.args.self.now).slots in
    let place = slot_place g.M.Kept.process_of g.M.Kept.node_of sought behind slots in
    let is = tree_is _ _ slots (holds slots) c.args.self.now sought c.requires in
    let here = ap (λ (t : Indexed). t.slots) c.tree.ensures in
    let answer : c.first_not_less.result ≡ first_not_less place tree =
    c.first_not_less.ensures place (λ s a fits gives. search rules)
    (subst (IsParted place) (sym here) (sought_parted _ _ sought behind slots (holds slots) tree is))
    ∙ ap (first_not_less place) here in
    found_not_met _ _ sought behind slots tree is c.in_ok-found.found c.in_ok-entry.entry.now (sym answer ∙ c.in_ok-found.was)
    (sym c.get.ensures ∙ ap option_copied c.in_ok-entry.was) (sym c.is_met-is_met.ensures ∙ c.if-is_met.false)

pub returns-in_err-entry : goal.returns-in_err-entry
returns-in_err-entry g c =
    let behind = option_copied c.args.behind in
    let slots = c.args.slots.now.slots in
    let sought = c.args.sought.now in
    let tree = (tree_of sought c.args.self.now).slots in
    let place = slot_place g.M.Kept.process_of g.M.Kept.node_of sought behind slots in
    let is = tree_is _ _ slots (holds slots) c.args.self.now sought c.requires in
    let here = ap (λ (t : Indexed). t.slots) c.tree.ensures in
    let answer : c.first_not_less.result ≡ first_not_less place tree =
    c.first_not_less.ensures place (λ s a fits gives. search rules)
    (subst (IsParted place) (sym here) (sought_parted _ _ sought behind slots (holds slots) tree is))
    ∙ ap (first_not_less place) here in
    let held = found_holds _ _ sought behind slots tree is c.in_ok-found.found (sym answer ∙ c.in_ok-found.was) in
    let none : held_at slots c.in_ok-found.found ≡ None = sym c.get.ensures ∙ ap option_copied c.in_err-entry.was in
    absurd (never_holds _ none held)
