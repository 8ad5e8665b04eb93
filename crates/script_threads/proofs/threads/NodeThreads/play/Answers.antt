use Rattle.std.proofs.Common.{sym, ◌∙◌}
use Rattle.script_lines.specs.Said.{said}
use Rattle.script_threads.proofs.Commands.{stays}
use Rattle.script_threads.specs.Standing.{nodes_of}
use Rattle.script_threads.proofs.threads.NodeThreads.play.Goals as goal

pub returns-in-Some-clause-nodes : goal.returns-in-Some-clause-nodes
returns-in-Some-clause-nodes g c = λ look knows early.
    stays c.act.result look (said c.args.line) _ (nodes_of c.args.self.now.cast) (nodes_of c.act.new.self.cast)
    (sym c.in-Some.is ∙ c.in_ok-node.ensures look knows) c.act.ensures.nodes
