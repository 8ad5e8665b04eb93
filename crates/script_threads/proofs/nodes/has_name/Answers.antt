use Rattle.std.proofs.Common.{◌∙◌}
use Rattle.script_threads.proofs.Named.{spelled}
use Rattle.script_threads.proofs.nodes.has_name.Goals as goal

pub returns : goal.returns
returns c = c.is_one_named.ensures ∙ spelled c.args.name.now c.args.nodes.now
