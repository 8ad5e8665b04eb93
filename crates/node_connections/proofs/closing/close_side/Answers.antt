use Rattle.std.proofs.Common.{◌≡◌, Some, None, refl, rules, sym, ap, subst, ◌∙◌}
use Rattle.std.specs.FinMap as fm
use Rattle.dist_model.specs.Handshake.{set_state}
use Rattle.dist_model.specs.Losses.{release_parked}
use Rattle.dist_model.specs.Node.{side_where}
use Rattle.dist_model.specs.Sides.{Gone, is_parked}
use Rattle.dist_model.specs.Work.{Work}
use Rattle.node_connections.proofs.Beside.{closes, parked_there, parked_towards}
use Rattle.node_connections.proofs.Stood.{towards}
use Rattle.node_plan.specs.Carried.{Makes, MakesOr}
use Rattle.node_plan.specs.Seen.{seen}
use Rattle.node_tables.specs.Standings.{side_of}
use Rattle.node_connections.proofs.closing.close_side.Goals as goal

pub returns-in-Some-clause-makes : goal.returns-in-Some-clause-makes
returns-in-Some-clause-makes c = λ work e h.
    let m = seen c.args.node.now in
    let side = c.args.side.now in
    let s = side_of side in
    let waiting = c.in-Some.waiting.now in
    let attempts = c.args.node.now.steady.attempts in
    let closed = set_state side.trunk s Gone work in
    let first : side_where is_parked side.peer (fm.entries m.sides) ≡ Some (waiting.trunk, side_of waiting) = search rules in
    let gone : Makes c.stand_down.new.plan m closed =
    c.in_ok-stand_down.ensures.makes m work (refl, refl)
    (towards work.node.sides side.trunk s (ap (λ x. fm.get x side.trunk) e ∙ c.requires.there)) (λ g. refl) h in
    let released =
    c.release.ensures.makes closed
    (parked_towards m side.trunk s attempts c.requires.there c.requires.losing work (waiting.trunk, side_of waiting) e first)
    (parked_there m side.trunk s attempts c.requires.there c.requires.losing work (waiting.trunk, side_of waiting) e first) gone in
    let P : Work → Type 0 = λ o. MakesOr m o c.release.new.plan c.release.result in
    subst P
    (sym (closes m side.trunk s attempts c.requires.there c.requires.losing work e ∙ ap (λ o. release_parked o closed) first)) released

pub returns-in-None-clause-makes : goal.returns-in-None-clause-makes
returns-in-None-clause-makes c = λ work e h.
    let m = seen c.args.node.now in
    let side = c.args.side.now in
    let s = side_of side in
    let attempts = c.args.node.now.steady.attempts in
    let closed = set_state side.trunk s Gone work in
    let first : side_where is_parked side.peer (fm.entries m.sides) ≡ None = search rules in
    let gone : Makes c.stand_down.new.plan m closed =
    c.in_ok-stand_down.ensures.makes m work (refl, refl)
    (towards work.node.sides side.trunk s (ap (λ x. fm.get x side.trunk) e ∙ c.requires.there)) (λ g. refl) h in
    let P : Work → Type 0 = λ o. Makes c.stand_down.new.plan m o in
    subst P (sym (closes m side.trunk s attempts c.requires.there c.requires.losing work e ∙ ap (λ o. release_parked o closed) first)) gone
