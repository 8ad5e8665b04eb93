use Rattle.node_tables.proofs.Registered.{held_named, one_to_one}
use Rattle.node_tables.proofs.registering.one_name_each.Goals as goal

pub returns-clause-one_to_one : goal.returns-clause-one_to_one
returns-clause-one_to_one c =
    let it = c.args.table.now in one_to_one it.by_name.entries it.by_holder.entries it.inverse

pub returns-clause-same : goal.returns-clause-same
returns-clause-same c =
    let it = c.args.table.now in held_named it.by_name.entries it.by_holder.entries it.inverse
