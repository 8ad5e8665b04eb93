use Rattle.std.proofs.Common.{◌≡◌, ◌++◌, ◌∙◌, ℕ, List, OnOk, ap, string_bytes, subst, sym}
use Rattle.std.proofs.lemmas.List.Folds.{flat_map-map}
use Rattle.std.specs.List.{flat_map}
use Rattle.node_core.specs.Model.{model_of}
use Rattle.node_texts.specs.Shown.{shown_node}
use Rattle.world_texts.proofs.showing.put_world.Goals as goal

pub returns : goal.returns
returns c = λ m h.
    subst (λ (text : List ℕ). OnOk c.put_all.result (string_bytes c.put_all.new.out ≡ string_bytes c.args.out.now ++ text))
    (ap (flat_map (λ node. shown_node (model_of node))) c.nodes.ensures
    ∙ sym (flat_map-map shown_node model_of c.args.world.now.nodes.items)
    ∙ ap (flat_map shown_node) (sym h.nodes)) c.put_all.ensures
