use Rattle.script_repeats.proofs.Brought.{on_ok}
use Rattle.script_repeats.proofs.Opening.{opened_more}
use Rattle.script_repeats.proofs.script.Repeating.join.Goals as goal

pub returns : goal.returns
returns c = λ seed nodes was.
    on_ok c.run.result
    (opened_more seed nodes c.args.node.now c.args.line.now c.args.self.now c.run.new.self was
    (c.in_ok-is_node.ensures was.at was.session c.if-not-branch.false))
    (c.run.ensures was.at was.session)
