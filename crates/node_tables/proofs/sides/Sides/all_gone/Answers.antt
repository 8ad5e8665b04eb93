use Rattle.std.proofs.Common.{false, rules, ◌∙◌}
use Rattle.std.proofs.lemmas.Fn.{filter_same}
use Rattle.dist_model.specs.Names.{Name}
use Rattle.erl_names.specs.declared.trunk.TrunkId.{TrunkId}
use Rattle.node_tables.proofs.Ended.{none_apart, none_kept, none_lost, none_sorted}
use Rattle.node_tables.proofs.RoutesKept.{none_routed}
use Rattle.node_tables.proofs.Whole.{gone_sides}
use Rattle.node_tables.proofs.sides.Sides.all_gone.Goals as goal

pub invariant_of-self-clause-sorted : goal.invariant_of-self-clause-sorted
invariant_of-self-clause-sorted c = none_sorted c.bury_all.new.held.items c.bury_all.ensures.none

pub invariant_of-self-clause-routed : goal.invariant_of-self-clause-routed
invariant_of-self-clause-routed c =
    let it = c.args.self.now in
    let routes =
    filter_same _ (λ (e : Name × TrunkId). false) _ (λ x b f' called. (search rules, search rules)) _ _ c.retain.ensures.entries
    ∙ none_kept it.routes.entries in
    none_routed c.retain.new.self.entries c.bury_all.new.held.items routes c.bury_all.ensures.none

pub invariant_of-self-clause-apart : goal.invariant_of-self-clause-apart
invariant_of-self-clause-apart c = none_apart c.bury_all.new.held.items c.bury_all.ensures.none c.bury_all.new.gone.items

pub invariant_of-self-clause-first_lost : goal.invariant_of-self-clause-first_lost
invariant_of-self-clause-first_lost c = none_lost c.bury_all.new.held.items c.bury_all.ensures.none

pub returns-clause-sides : goal.returns-clause-sides
returns-clause-sides c =
    let it = c.args.self.now in
    gone_sides it.held.items c.bury_all.new.held.items it.gone.items c.bury_all.new.gone.items c.bury_all.ensures.none
    c.bury_all.ensures.buried
