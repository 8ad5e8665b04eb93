use Rattle.std.proofs.Common.{◌++◌, ◌∙◌, List, ap, arith, string_bytes, sym, ℕ}
use Rattle.std.proofs.lemmas.List.{take_all}
use Rattle.std.proofs.lemmas.List.Folds.{flat_map-map}
use Rattle.std.specs.List.{flat_map}
use Rattle.node_core.specs.Model.{model_of}
use Rattle.node_core.specs.declared.node.Node.{Node}
use Rattle.node_texts.specs.Trunks.{trunks_text}
use Rattle.world_core.specs.Names.{name_of}
use Rattle.world_texts.proofs.showing.put_all_trunks.Goals as goal

pub returns : goal.returns
returns c =
    let text = trunks_text (model_of c.args.node.now) in
    let nodes = c.args.nodes.now in
    c.loop-peer.invariant
    ∙ ap (λ (taken : List Node). string_bytes c.args.out.now ++ flat_map (λ peer. text (name_of peer)) taken)
    (take_all c.loop-peer.peer-index nodes (omega arith))
    ∙ ap (λ (all : List ℕ). string_bytes c.args.out.now ++ all) (sym (flat_map-map text name_of nodes))
