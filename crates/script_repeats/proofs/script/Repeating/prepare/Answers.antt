use Rattle.script_repeats.proofs.Brought.{none_added}
use Rattle.script_repeats.proofs.script.Repeating.prepare.Goals as goal

pub returns-in-None : goal.returns-in-None
returns-in-None c = λ state is. none_added state c.args.self.now is
