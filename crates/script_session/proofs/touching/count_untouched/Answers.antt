use Rattle.std.proofs.Common.{◌∙◌, ap, length, unwrap_or}
use Rattle.std.specs.List.{position_or_len}
use Rattle.script_session.proofs.Untouched.{count_same, counted}
use Rattle.script_session.proofs.touching.count_untouched.Goals as goal
use Rattle.run_traces.specs.Traces.{effects_of}
use Rattle.script_session.specs.Touched.{is_touched}
use Rattle.world_core.specs.Names.{names_of}

pub returns-clause-exact : goal.returns-clause-exact
returns-clause-exact c = λ report t.
    let nodes = c.args.nodes.now in
    let node = c.args.node.now in
    c.unwrap_or.ensures ∙ ap (λ place. unwrap_or place (length nodes)) c.first_touched.ensures
    ∙ counted (is_touched node c.effects_of.result.now) nodes
    ∙ ap (λ effects. position_or_len (is_touched node effects) (names_of nodes)) (c.effects_of.ensures report t)
    ∙ count_same node (effects_of report) (names_of nodes)
