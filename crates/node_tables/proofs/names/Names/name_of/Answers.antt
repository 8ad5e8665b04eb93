use Rattle.std.proofs.Common.{◌∙◌}
use Rattle.node_tables.proofs.Registered.{name_is}
use Rattle.node_tables.proofs.names.Names.name_of.Goals as goal

pub returns : goal.returns
returns c =
    let it = c.args.self.now in c.get.ensures ∙ name_is it.by_name.entries it.by_holder.entries it.inverse c.args.process.now
