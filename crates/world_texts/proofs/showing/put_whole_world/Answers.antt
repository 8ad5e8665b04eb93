use Rattle.std.proofs.Common.{◌≡◌, ◌++◌, ◌∙◌, ℕ, List, OnOk, ap, append_assoc, string_bytes, subst, sym}
use Rattle.std.proofs.lemmas.List.Folds.{flat_map-map}
use Rattle.std.specs.List.{flat_map}
use Rattle.node_core.specs.Model.{model_of}
use Rattle.node_core.specs.declared.node.Node.{Node}
use Rattle.world_core.specs.Names.{names_of}
use Rattle.world_texts.specs.Shown.{travels_lines, whole_node_of}
use Rattle.world_texts.proofs.showing.put_whole_world.Goals as goal

pub returns : goal.returns
returns c = λ m h.
    let items = c.args.world.now.nodes.items in
    let out = string_bytes c.args.out.now in
    let last = flat_map (travels_lines m) m.nodes in
    let nodes : flat_map (λ node. whole_node_of (names_of c.nodes.result.now) (model_of node)) c.nodes.result.now
    ≡ flat_map (whole_node_of m.names) m.nodes =
    ap (λ (held : List Node). flat_map (λ node. whole_node_of (names_of held) (model_of node)) held) c.nodes.ensures
    ∙ sym (flat_map-map (whole_node_of (names_of items)) model_of items)
    ∙ (λ i. flat_map (whole_node_of (sym h.names i)) (sym h.nodes i)) in
    subst (λ (text : List ℕ). OnOk c.put_all_lines.result (string_bytes c.put_all_lines.new.out ≡ text))
    (ap (λ (text : List ℕ). text ++ last) (c.in_ok-put_whole_nodes.ensures ∙ ap (λ (text : List ℕ). out ++ text) nodes)
    ∙ append_assoc out (flat_map (whole_node_of m.names) m.nodes) last)
    (c.put_all_lines.ensures m h)
