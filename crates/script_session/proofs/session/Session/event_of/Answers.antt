use Rattle.std.proofs.Common.{sym, ◌∙◌}
use Rattle.script_lines.specs.Replies.{expected}
use Rattle.script_lines.specs.Said.{said}
use Rattle.script_session.proofs.LineEvents.{asked_event, moved_in, none_expected}
use Rattle.script_session.proofs.session.Session.event_of.Goals as goal

pub returns-in-Some : goal.returns-in-Some
returns-in-Some c = λ state is.
    asked_event state (said c.args.line) (c.in-Some.node, c.in-Some.command)
    (none_expected (expected (said c.args.line)) c.expected.result c.expected.ensures (sym c.is_some.ensures ∙ c.if-is_some.false))
    (sym c.starts.ensures ∙ c.if-not-starts.false)
    (sym c.in-Some.is ∙ c.in_ok-node.ensures state.names is.names)

pub returns-in-None : goal.returns-in-None
returns-in-None c = λ state is.
    moved_in state (said c.args.line) c.event_of.result
    (none_expected (expected (said c.args.line)) c.expected.result c.expected.ensures (sym c.is_some.ensures ∙ c.if-is_some.false))
    (sym c.starts.ensures ∙ c.if-not-starts.false)
    (sym c.in-None.is ∙ c.in_ok-node.ensures state.names is.names)
    (c.event_of.ensures state.stage is.stage)
