use Rattle.std.proofs.Common.{◌≡◌, ◌-◌, rules, sym, subst, ◌∙◌}
use Rattle.std.proofs.lemmas.Option.{same_Some}
use Rattle.dist_model.specs.Names.{Name}
use Rattle.node_plan.specs.Seen.{seen}
use Rattle.node_connections.proofs.Stands.{is_drawn, link_stands}
use Rattle.node_connections.specs.Ahead.{NoneLinkedUpTo}
use Rattle.node_connections.proofs.reaching.at_link.Goals as goal

pub overflow_sub-result : goal.overflow_sub-result
overflow_sub-result c = let link = c.args.link.now in is_drawn c.args.node.now c.args.peer.now link.id link.partner.now link.end c.requires

pub returns : goal.returns
returns c =
    let link = c.args.link.now in
    let same : c.in_ok-clone.field-0 ≡ c.args.peer.now = search rules in
    let P : Name → Type 0 = λ y. NoneLinkedUpTo y (link.id - 1) (seen c.args.node.now).ends in
    λ peer is.
    subst P (sym same ∙ same_Some _ peer is) (link_stands c.args.node.now c.args.peer.now link.id link.partner.now link.end c.requires)
