use Rattle.std.proofs.Common.{◌∙◌, ap, string_bytes}
use Rattle.std.specs.List.{position_or_len}
use Rattle.script_session.proofs.Untouched.{turned}
use Rattle.script_session.proofs.stage.Stage.take_turn.Goals as goal
use Rattle.run_traces.specs.Traces.{effects_of}
use Rattle.script_session.specs.Touched.{is_touched}
use Rattle.world_core.specs.Names.{names_of}

pub returns-clause-turned : goal.returns-clause-turned
returns-clause-turned c = λ it h next.
    turned it c.args.self.now c.happen.new.self c.args.node.now c.args.event (string_bytes c.args.out.now)
    (string_bytes c.happen.new.out) c.in_ok-came.came c.count_untouched-idle.result h next (c.in_ok-came.ensures it h)
    (λ report tells. c.count_untouched-idle.ensures.exact report tells
    ∙ ap (λ nodes. position_or_len (is_touched c.args.node.now (effects_of report)) (names_of nodes)) c.nodes.ensures)
