use Rattle.std.proofs.Common.{◌≡◌, ◌∷◌, [], rules, subst}
use Rattle.dist_model.specs.Names.{Name}
use Rattle.node_core.specs.NodeEvents.{event_at}
use Rattle.script_repeats.proofs.Brought.{line_adds, on_ok}
use Rattle.script_repeats.specs.Steps.{IsLineOf}
use Rattle.script_repeats.proofs.script.Repeating.bring.Goals as goal

pub returns : goal.returns
returns c = λ state is.
    let node = c.args.node.now in
    let line = c.args.line.now in
    let event = c.args.event.now in
    let name : c.atom.result.now ≡ node = search rules in
    let it =
    subst (λ (n : Name). IsLineOf state line (event_at n event)) name (c.in_ok-is_line_of.ensures state is c.if-not-branch.false) in
    on_ok c.run.result
    (line_adds state line it.said (event_at node event ∷ []) c.args.self.now c.run.new.self it.says it.is.runs it.is)
    (c.run.ensures state is)
