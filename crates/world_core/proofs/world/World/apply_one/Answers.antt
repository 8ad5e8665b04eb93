use Rattle.std.proofs.Common.{◌≡◌, ◌∙◌, ◌<◌, ap, arith, length, refl, sym, slice_index_or}
use Rattle.std.proofs.lemmas.List.{length-map}
use Rattle.dist_model.specs.Dialing.{has_name}
use Rattle.world_core.specs.Names.{name_of, names_of}
use Rattle.world_core.proofs.Stepped.{came, meets, next_for, no_place}
use Rattle.world_core.proofs.world.World.apply_one.Goals as goal

pub returns-then-node-len : goal.returns-then-node-len
returns-then-node-len c = λ m h.
    let nodes = c.args.self.now.nodes.items in
    let same = length-map nodes name_of in
    no_place c.args.self.now m h _ c.args.event.node c.args.event.event (omega arith)
    (record { names = h.names; distinct = h.distinct; nodes = h.nodes; lists = h.lists; spelled = h.spelled; reached = h.reached })

pub returns : goal.returns
returns c = λ m h.
    let w = c.args.self.now in
    let place = c.args.event.node in
    let e = c.args.event.event in
    let old = c.index_mut.result.now in
    let new = c.happen.new.node in
    let l : place < length w.nodes.items = omega arith in
    let is : slice_index_or w.nodes.items place old ≡ old = sym c.index_mut.ensures.value in
    came w m h place old new l is _ refl e c.happen.result
    (c.happen.ensures m.names (next_for w m h place old new l is e) (meets w m h place old new l is e c.is_known-is_known.result
    (λ peer word k. ap (λ ns. has_name peer (names_of ns)) (sym c.deref.ensures.value) ∙ c.is_known-is_known.ensures peer word k)))
