use Rattle.std.proofs.Common.{◌≡◌, true, Some, None, [], ap, sym, ◌∙◌}
use Rattle.std.specs.FinMap as fm
use Rattle.std.specs.Option.{is_some, option_copied, option_map}
use Rattle.dist_model.proofs.Routes.{node_of_name}
use Rattle.dist_model.specs.Node.{Node, first_where}
use Rattle.dist_model.specs.Quiet.{is_quiet_on}
use Rattle.dist_model.specs.Seen.{seen}
use Rattle.dist_model.specs.World.{node_of}
use Rattle.node_core.specs.Model.{model_of}
use Rattle.world_core.specs.Quiet.{is_quiet_there}
use Rattle.world_core.proofs.Silent.{over_is, route_taken}
use Rattle.world_core.specs.Coming.{is_taken, side_in, takes}
use Rattle.world_core.proofs.world.World.is_quiet_over.Goals as goal

pub returns-in-Some-route : goal.returns-in-Some-route
returns-in-Some-route c = λ m h.
    let p = c.args.p.now in
    let q = c.args.q.now in
    let node = c.in-Some.here.now in
    let here = model_of node in
    let at : node_of m.nodes p.node ≡ Some here = sym (c.node.ensures m h) ∙ ap (λ o. option_map model_of (option_copied o)) c.in-Some.is in
    let t = c.in-Some-route.trunk.now in
    let named = c.name.ensures ∙ node_of_name m.nodes p.node here at in
    let route = sym c.route.ensures ∙ ap option_copied c.in-Some-route.is in
    let taken : is_taken m t c.name.result.now ≡ true =
    ap (is_taken m t) named ∙ ap (λ o. takes (side_in o t)) at ∙ route_taken here q.node t route in
    c.is_quiet_on.ensures m h taken
    ∙ ap (λ x. is_quiet_there m x p q t) named
    ∙ sym (over_is m p q here node.state.steady (fm.entries_sorted here.sides) (Some t) route)
    ∙ sym (ap (λ o. is_some (first_where (is_quiet_on m p q) (seen o [] (λ (n : Node). fm.entries n.sides)))) at)

pub returns-in-None : goal.returns-in-None
returns-in-None c = λ m h.
    let p = c.args.p.now in
    let q = c.args.q.now in
    let node = c.in-Some.here.now in
    let here = model_of node in
    let at : node_of m.nodes p.node ≡ Some here = sym (c.node.ensures m h) ∙ ap (λ o. option_map model_of (option_copied o)) c.in-Some.is in
    sym (over_is m p q here node.state.steady (fm.entries_sorted here.sides) None (sym c.route.ensures ∙ ap option_copied c.in-None.is))
    ∙ sym (ap (λ o. is_some (first_where (is_quiet_on m p q) (seen o [] (λ (n : Node). fm.entries n.sides)))) at)
