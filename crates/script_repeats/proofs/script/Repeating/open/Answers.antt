use Rattle.std.proofs.Common.{◌∷◌, [], ◌++◌, ap, subst, sym, take, ◌∙◌}
use Rattle.std.proofs.lemmas.List.{take_more}
use Rattle.dist_books.specs.Acting.{Nodes}
use Rattle.dist_model.specs.Names.{Name}
use Rattle.erl_handshake.specs.declared.setup.Setup.{Setup}
use Rattle.script_repeats.specs.Steps.{HasOpened}
use Rattle.script_repeats.proofs.script.Repeating.open.Goals as goal

pub loop-place-init : goal.loop-place-init
loop-place-init c = λ seed is. is

pub loop-place-preserved : goal.loop-place-preserved
loop-place-preserved c = λ seed is.
    let nodes = c.args.nodes.now in
    let place = c.loop-place.place in
    let node = c.index-nodes-place.result in
    subst (λ (l : Nodes). HasOpened seed l c.join.new.self)
    (sym (take_more nodes place node c.loop-place-test.true ∙ ap (λ (x : Name × Setup). take place nodes ++ x ∷ []) (sym c.index-nodes-place.is)))
    (c.in_ok-join-in-Some.ensures seed (take place nodes) (c.loop-place.invariant seed is))
