use Rattle.run_traces.specs.declared.trace.Trace.{Trace}
use Rattle.script_explorer.specs.Printed.{Unmet}
use Rattle.script_session.specs.Session.{fresh_state}
use Rattle.script_explorer.proofs.drawing.draw_unmet.Goals as goal

pub returns : goal.returns
returns c =
    let run = c.in_ok-ended.ensures (fresh_state Trace.Off c.args.seed) c.in_ok-session.ensures in
    let unmet : Unmet c.args.seed = record {
      number = c.args.script.now.number;
      ran = record { lines = run.before; texts = run.texts; last = run.last; led = run.led };
      line = run.line;
      unmet = run.unmet;
      advice = c.as_str.result.now;
    } in (unmet, c.in_ok-heading.ensures)
