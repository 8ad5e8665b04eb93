use Rattle.std.proofs.Common.{refl, sym, ap, ◌∙◌}
use Rattle.std.specs.FinMap as fm
use Rattle.erl_names.specs.Order.{name_cmp}
use Rattle.node_tables.proofs.Registered.{nothing_removed, other_names, removed, same_names, still_inverse}
use Rattle.node_tables.proofs.names.Names.remove_of.Goals as goal

-- it has a name

pub invariant_of-self : goal.invariant_of-self
invariant_of-self c =
    let it = c.args.self.now in
    record {
      inverse = still_inverse _ c.remove-in-Some.new.self.entries _ c.remove.new.self.entries
          c.remove-in-Some.ensures.entries c.remove.ensures.entries
          (removed it.by_name.entries it.by_holder.entries it.inverse c.args.process.now c.in-Some.name
          (sym c.remove.ensures.before ∙ c.in-Some.is));
    }

pub returns-in-Some-clause-names : goal.returns-in-Some-clause-names
returns-in-Some-clause-names c =
    let it = c.args.self.now in
    ap (fm.from_sorted {R = name_cmp}) c.remove-in-Some.ensures.entries
    ∙ other_names it.by_name.entries it.by_holder.entries it.inverse c.args.process.now c.in-Some.name
    (sym c.remove.ensures.before ∙ c.in-Some.is)

-- it has none

pub invariant_of-self-in_default : goal.invariant_of-self-in_default
invariant_of-self-in_default c =
    let it = c.args.self.now in
    record {
      inverse = still_inverse _ it.by_name.entries _ c.remove.new.self.entries refl c.remove.ensures.entries
          (nothing_removed it.by_name.entries it.by_holder.entries it.inverse c.args.process.now
          (sym c.remove.ensures.before ∙ c.in_default.is));
    }

pub returns-in_default-clause-names : goal.returns-in_default-clause-names
returns-in_default-clause-names c =
    let it = c.args.self.now in
    same_names it.by_name.entries it.by_holder.entries it.inverse c.args.process.now (sym c.remove.ensures.before ∙ c.in_default.is)
