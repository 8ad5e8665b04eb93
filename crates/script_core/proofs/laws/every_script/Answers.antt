use Rattle.script_core.proofs.RunLemmas.{script_led}
use Rattle.script_core.specs.Script.{script}
use Rattle.script_core.proofs.laws.every_script.Goals as goal

pub returns : goal.returns
returns c =
    record {
      safe = λ trace seed input.
          let led = script_led c.events_lead_to_every_line.ensures.fresh c.events_lead_to_every_line.ensures.line trace seed input in
          let r = led.reached in (
            r.nodes,
            r.events,
            r.reports,
            r.runs,
            c.every_run_is_safe.ensures.safe r.nodes r.events r.reports (script trace seed input).state.stage.world r.runs,
          );
    }
