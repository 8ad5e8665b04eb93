use Rattle.script_core.specs.Threaded.{fresh_known}
use Rattle.script_core.proofs.threads.InThreads.keeping_lines.Goals as goal

pub returns-clause-known : goal.returns-clause-known
returns-clause-known c = c.keeping_lines.ensures fresh_known c.new.ensures
