use Rattle.std.proofs.Common.{◌++◌, ◌∙◌, List, ap, arith, string_bytes, sym, ℕ}
use Rattle.std.proofs.lemmas.List.{take_all}
use Rattle.std.proofs.lemmas.List.Folds.{flat_map-map}
use Rattle.std.specs.List.{flat_map}
use Rattle.dist_model.specs.Names.{Name}
use Rattle.node_core.specs.Model.{model_of}
use Rattle.node_core.specs.declared.node.Node.{Node}
use Rattle.world_core.specs.Names.{name_of}
use Rattle.world_texts.specs.Shown.{travels_line}
use Rattle.world_texts.proofs.Walked.{walked_more}
use Rattle.world_texts.proofs.arriving.put_lines_from_all.Goals as goal

pub loop-peer-preserved : goal.loop-peer-preserved
loop-peer-preserved c = λ m h.
    let text = travels_line m (model_of c.args.node.now) in
    let peer = c.peer-item.result in
    let out = string_bytes c.loop-peer.out in
    walked_more (λ (peer : Node). text (name_of peer)) c.nodes-peers.result.now c.loop-peer.peer-index peer peer
    (string_bytes c.args.out.now) out (string_bytes c.put_line_from.new.out) c.loop-peer-test.true c.peer-item.is (c.loop-peer.invariant m h)
    (c.in_ok-put_line_from.ensures m h ∙ ap (λ (name : Name). out ++ text name) (c.atom.ensures ∙ c.name.ensures))

pub returns : goal.returns
returns c = λ m h.
    let text = travels_line m (model_of c.args.node.now) in
    let out = string_bytes c.args.out.now in
    let peers = c.nodes-peers.result.now in
    c.loop-peer.invariant m h
    ∙ ap (λ (nodes : List Node). out ++ flat_map (λ peer. text (name_of peer)) nodes)
    (take_all c.loop-peer.peer-index peers (omega arith) ∙ c.nodes-peers.ensures)
    ∙ ap (λ (told : List ℕ). out ++ told)
    (sym (flat_map-map text name_of c.args.world.now.nodes.items) ∙ ap (flat_map text) (sym h.names))
