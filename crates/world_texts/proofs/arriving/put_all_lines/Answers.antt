use Rattle.std.proofs.Common.{◌++◌, ◌∙◌, List, ap, arith, string_bytes, sym, ℕ}
use Rattle.std.proofs.lemmas.List.{take_all}
use Rattle.std.proofs.lemmas.List.Folds.{flat_map-map}
use Rattle.std.specs.List.{flat_map}
use Rattle.node_core.specs.Model.{model_of}
use Rattle.node_core.specs.declared.node.Node.{Node}
use Rattle.world_texts.specs.Shown.{travels_lines}
use Rattle.world_texts.proofs.arriving.put_all_lines.Goals as goal

pub returns : goal.returns
returns c = λ m h.
    let text = travels_lines m in
    let out = string_bytes c.args.out.now in
    let nodes = c.nodes-nodes.result.now in
    c.loop-node.invariant m h
    ∙ ap (λ (nodes : List Node). out ++ flat_map (λ node. text (model_of node)) nodes)
    (take_all c.loop-node.node-index nodes (omega arith) ∙ c.nodes-nodes.ensures)
    ∙ ap (λ (told : List ℕ). out ++ told)
    (sym (flat_map-map text model_of c.args.world.now.nodes.items) ∙ ap (flat_map text) (sym h.nodes))
