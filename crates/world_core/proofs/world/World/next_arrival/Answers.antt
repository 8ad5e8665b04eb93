use Rattle.std.proofs.Common.{◌≡◌, ◌∙◌, ap, length, rules, sym}
use Rattle.std.specs.Option.{option_copied, option_map}
use Rattle.dist_model.specs.World.{node_of}
use Rattle.node_core.specs.Model.{model_of}
use Rattle.world_core.proofs.LeastArrival.{next_is, none_is}
use Rattle.world_core.proofs.world.World.next_arrival.Goals as goal
use Rattle.world_core.specs.Lists.{line_to}

pub returns-in-Some : goal.returns-in-Some
returns-in-Some c = λ m h.
    let w = c.args.self.now in
    let node = model_of c.args.node.now in
    ap (λ o. option_map (λ e. e.0) (option_copied o)) (sym c.in-Some.is)
    ∙ next_is w m h node (option_copied c.args.from) c.line-line.result.now
    (c.line-line.ensures.line ∙ ap (line_to w.lists) c.name.ensures) c.line-line.ensures.sorted c.line-line.ensures.full
    (option_map model_of (option_copied c.node-own.result))
    (c.node-own.ensures m h ∙ ap (node_of m.nodes) (c.atom.ensures ∙ c.name-2.ensures))
    (option_copied c.first_in.result) (sym c.first_in.ensures)

pub returns-in-None : goal.returns-in-None
returns-in-None c = λ m h.
    let w = c.args.self.now in
    let node = model_of c.args.node.now in
    ap (λ o. option_map (λ e. e.0) (option_copied o)) (sym c.in-None.is)
    ∙ next_is w m h node (option_copied c.args.from) c.line-line.result.now
    (c.line-line.ensures.line ∙ ap (line_to w.lists) c.name.ensures) c.line-line.ensures.sorted c.line-line.ensures.full
    (option_map model_of (option_copied c.node-own.result))
    (c.node-own.ensures m h ∙ ap (node_of m.nodes) (c.atom.ensures ∙ c.name-2.ensures))
    (option_copied c.first_in.result) (sym c.first_in.ensures)

pub returns-then-is_empty : goal.returns-then-is_empty
returns-then-is_empty c = λ m h.
    let w = c.args.self.now in
    let empty : length c.line-line.result.now ≡ 0 = search rules in
    none_is w m h (model_of c.args.node.now) (option_copied c.args.from) c.line-line.result.now
    (c.line-line.ensures.line ∙ ap (line_to w.lists) c.name.ensures) c.line-line.ensures.sorted c.line-line.ensures.full empty
