use Rattle.std.proofs.Common.{rules, sym, subst}
use Rattle.monitor_core.specs.Slots.{holds_but}
use Rattle.monitor_core.specs.Orders.{slot_cmp}
use Rattle.monitor_core.specs.Trees.{IsTree}
use Rattle.monitor_core.proofs.Among.{removed, slots_parted}
use Rattle.monitor_core.proofs.orders.By.remove.Goals as goal

pub returns-clause-tree : goal.returns-clause-tree
returns-clause-tree g c =
    let slots = c.args.slots.now.slots in
    let tree = c.args.tree.now.slots in
    subst (IsTree g.M.Kept.process_of g.M.Kept.node_of c.args.self slots (holds_but slots c.args.slot))
    (sym (c.remove.ensures.slots (λ other. slot_cmp g.M.Kept.process_of g.M.Kept.node_of c.args.self slots other c.args.slot) (λ s a fits gives. search rules)
    (slots_parted _ _ c.args.self slots _ tree c.args.slot c.requires.tree)))
    (removed _ _ c.args.self slots tree c.args.slot c.requires.alone c.requires.held c.requires.tree)
