use Rattle.run_traces.specs.declared.trace.Trace.{Trace}
use Rattle.script_session.specs.Session.{fresh_state}
use Rattle.script_explorer.proofs.drawing.drawing_session.Goals as goal

pub returns : goal.returns
returns c = c.draw_picture.ensures.state (fresh_state Trace.Off c.args.seed) c.new-session.ensures
