use Rattle.script_session.specs.Session.{fresh_state}
use Rattle.script_core.proofs.script.run_to_end.Goals as goal

pub returns : goal.returns
returns g c =
    let state = fresh_state c.args.options.now.trace c.args.options.now.seed in
    c.read_all-outcome.ensures state (c.new-script.ensures.at state c.new-session.ensures)
