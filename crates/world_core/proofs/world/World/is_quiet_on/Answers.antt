use Rattle.std.proofs.Common.{◌≡◌, ◌&&◌, true, false, Some, None, ap, sym, ◌∙◌, rules}
use Rattle.std.specs.FinMap as fm
use Rattle.std.specs.Option.{option_copied, option_map}
use Rattle.dist_model.proofs.Routes.{node_of_name}
use Rattle.dist_model.specs.Node.{Node}
use Rattle.dist_model.specs.Quiet.{is_up_to, nothing_between}
use Rattle.dist_model.specs.Seen.{seen, side_of_trunk}
use Rattle.dist_model.specs.World.{list_to, node_of}
use Rattle.node_core.specs.Model.{model_of}
use Rattle.world_core.proofs.Silent.{on_list, up_taken}
use Rattle.world_core.specs.Coming.{is_taken}
use Rattle.world_core.proofs.world.World.is_quiet_on.Goals as goal

pub returns-then-not-has_nothing_between : goal.returns-then-not-has_nothing_between
returns-then-not-has_nothing_between c = λ m h k.
    let w = c.args.self.now in
    let t = c.args.trunk.now in
    let p = c.args.p.now in
    let q = c.args.q.now in
    let there = model_of c.in-Some.there.now in
    let at : node_of m.nodes q.node ≡ Some there =
    sym (c.node.ensures m h) ∙ ap (λ o. option_map model_of (option_copied o)) c.in-Some.is in
    let side : side_of_trunk m q.node t ≡ fm.get there.sides t = ap (λ o. seen o None (λ (n : Node). fm.get n.sides t)) at in
    let is : c.is_up_to.result ≡ true = search rules in
    let up : is_up_to p.node (side_of_trunk m q.node t) ≡ true =
    ap (is_up_to p.node) (side ∙ sym c.side.ensures) ∙ sym c.is_up_to.ensures ∙ is in
    let no : c.has_nothing_between.result ≡ false = search rules in
    let first : nothing_between p q (list_to m.lists t c.args.name.now) ≡ false =
    sym (on_list w m h p q t c.args.name.now k) ∙ sym c.has_nothing_between.ensures ∙ no in
    sym (λ i. up i && (first i && nothing_between p q (list_to m.lists t q.node)))

pub returns : goal.returns
returns c = λ m h k.
    let w = c.args.self.now in
    let t = c.args.trunk.now in
    let p = c.args.p.now in
    let q = c.args.q.now in
    let there = model_of c.in-Some.there.now in
    let at : node_of m.nodes q.node ≡ Some there =
    sym (c.node.ensures m h) ∙ ap (λ o. option_map model_of (option_copied o)) c.in-Some.is in
    let side : side_of_trunk m q.node t ≡ fm.get there.sides t = ap (λ o. seen o None (λ (n : Node). fm.get n.sides t)) at in
    let is : c.is_up_to.result ≡ true = search rules in
    let up : is_up_to p.node (side_of_trunk m q.node t) ≡ true =
    ap (is_up_to p.node) (side ∙ sym c.side.ensures) ∙ sym c.is_up_to.ensures ∙ is in
    let yes : c.has_nothing_between.result ≡ true = search rules in
    let first : nothing_between p q (list_to m.lists t c.args.name.now) ≡ true =
    sym (on_list w m h p q t c.args.name.now k) ∙ sym c.has_nothing_between.ensures ∙ yes in
    let named : c.name.result.now ≡ q.node = c.name.ensures ∙ node_of_name m.nodes q.node there at in
    let taken : is_taken m t c.name.result.now ≡ true =
    ap (is_taken m t) named ∙ up_taken p.node (side_of_trunk m q.node t) up in
    c.has_nothing_between-2.ensures ∙ on_list w m h p q t c.name.result.now taken
    ∙ ap (λ y. nothing_between p q (list_to m.lists t y)) named
    ∙ sym (λ i. up i && (first i && nothing_between p q (list_to m.lists t q.node)))
