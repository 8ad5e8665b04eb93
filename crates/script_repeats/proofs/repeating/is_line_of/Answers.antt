use Rattle.std.proofs.Common.{IfSome, Ok, Option, ap, subst}
use Rattle.dist_model.specs.Names.{Name}
use Rattle.node_core.specs.NodeEvents.{event_at}
use Rattle.node_core.specs.declared.node_event.NodeEvent.{NodeEvent}
use Rattle.script_lines.specs.Lines.{ReadsSome, line_says}
use Rattle.script_lines.specs.Said.{said}
use Rattle.script_lines.specs.declared.line.Line.{Line}
use Rattle.script_repeats.proofs.Brought.{line_is}
use Rattle.script_session.specs.Events.{IsEventOf}
use Rattle.script_session.specs.Session.{may_come}
use Rattle.script_repeats.proofs.repeating.is_line_of.Goals as goal

pub returns-in-Some : goal.returns-in-Some
returns-in-Some c = λ state is yes.
    let it = said c.in-Ok-Some.line in
    line_is state c.args.line.now it c.in-Some.own c.args.name.now c.args.event.now
    (subst (ReadsSome (line_says (may_come state) state.names c.args.line.now)) (ap (λ (o : Option Line). Ok o) c.in-Ok-Some.field-0-is)
    (c.in-Ok-Some.ensures state is))
    (subst (λ (o : Option (Name × NodeEvent)). IfSome o (λ found. IsEventOf state it (event_at found.0 found.1))) c.in-Some.is
    (c.in_ok-own.ensures state is))
    (c.is_event.ensures yes)
