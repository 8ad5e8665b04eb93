use Rattle.std.proofs.Common.{◌++◌, ◌∙◌, Bool, [], ap, arith, cond}
use Rattle.std.specs.List.{flat_map}
use Rattle.std.proofs.lemmas.List.{take_all}
use Rattle.node_core.specs.Model.{model_of}
use Rattle.world_core.specs.Lists.{line_to}
use Rattle.world_texts.proofs.InFlight.{frames_on, frames_travelling}
use Rattle.world_texts.proofs.Walked.{walked_more}
use Rattle.world_texts.proofs.coming.frames_coming.Goals as goal

pub loop-trunk-preserved : goal.loop-trunk-preserved
loop-trunk-preserved c = λ m h.
    let entry = c.loop-trunk-item.result in
    let frames = c.loop-trunk.frames.items in
    walked_more (frames_on m (model_of c.args.node.now) c.args.peer.now) c.line-line.result.now c.loop-trunk.trunk-index entry entry
    [] frames c.push_if.new.frames.items c.loop-trunk-test.true c.loop-trunk-item.is (c.loop-trunk.invariant m h)
    (c.in_ok-push_if.ensures ∙ ap (λ (b : Bool). frames ++ cond b entry.1 []) (c.takes-is_taken.ensures m h))

pub returns : goal.returns
returns c = λ m h.
    let line = c.line-line.result.now in
    let node = model_of c.args.node.now in
    c.loop-trunk.invariant m h
    ∙ ap (flat_map (frames_on m node c.args.peer.now)) (take_all c.loop-trunk.trunk-index line (omega arith))
    ∙ frames_travelling c.args.world.now m h node c.args.peer.now line
    (c.line-line.ensures.line ∙ (λ i. line_to (c.lists.ensures i) (c.name.ensures i))) c.line-line.ensures.sorted c.line-line.ensures.full
