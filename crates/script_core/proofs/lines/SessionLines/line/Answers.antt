use Rattle.std.proofs.Common.{string_bytes}
use Rattle.script_core.proofs.LineLemmas.{obeys_heeds}
use Rattle.script_core.proofs.lines.SessionLines.line.Goals as goal

pub returns-clause-runs : goal.returns-clause-runs
returns-clause-runs c = λ state h.
    obeys_heeds state c.args.line.now c.line.new.self (string_bytes c.args.out.now)
    (string_bytes c.line.new.out) c.line.result (c.line.ensures state (c.count_line.ensures.state state h))
