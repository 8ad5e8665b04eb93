use Rattle.std.proofs.Common.{◌++◌, ◌∙◌, ℕ, List, ap, refl, string_bytes}
use Rattle.std.specs.Option.{option_copied}
use Rattle.dist_model.specs.World.{step}
use Rattle.node_core.specs.NodeEvents.{event_at}
use Rattle.run_traces.specs.Traces.{trace_text}
use Rattle.script_session.proofs.EventOutcomes.{moved, told_spelled}
use Rattle.script_session.proofs.Turns.{on_ok}
use Rattle.script_session.proofs.stage.Stage.tell.Goals as goal

pub returns : goal.returns
returns c = λ it event a from.
    let name = c.args.node.now in
    let came = c.args.came.now in
    let peer = option_copied c.args.peer in
    let before = string_bytes c.args.out.now in
    let happened = event_at name event in
    let report = (step it.world happened).report in
    let text =
    c.in_ok-put_trace.ensures report a.tells (told_spelled it c.args.self.now happened came a)
    ∙ ap (λ (node : List ℕ). before ++ trace_text c.args.self.now.trace node peer report) c.text.ensures.text in
    on_ok c.follow.result
    (λ noted. moved it c.args.self.now _ name event came peer before (string_bytes c.put_trace.new.out) a from refl refl refl text noted)
    (c.follow.ensures report a.tells)
