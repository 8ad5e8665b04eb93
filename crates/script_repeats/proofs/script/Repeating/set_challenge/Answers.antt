use Rattle.std.proofs.Common.{[], refl}
use Rattle.script_lines.specs.Said.{Challenge}
use Rattle.script_repeats.proofs.Brought.{line_adds, none_added, on_ok}
use Rattle.script_repeats.proofs.script.Repeating.set_challenge.Goals as goal

pub returns : goal.returns
returns c = λ state is.
    let sets = c.is_challenge.ensures state is c.if-not-is_challenge.false in
    on_ok c.run.result
    (line_adds state c.as_bytes-line.result.now (Challenge sets.0) [] c.args.self.now c.run.new.self sets.1 refl (sets.0, refl))
    (c.run.ensures state is)

pub returns-then-word : goal.returns-then-word
returns-then-word c = λ state is. none_added state c.args.self.now is
