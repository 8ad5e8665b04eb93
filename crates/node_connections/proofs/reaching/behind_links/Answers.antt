use Rattle.std.proofs.Common.{◌≡◌, rules, sym, subst, ◌∙◌}
use Rattle.std.proofs.lemmas.Option.{same_Some}
use Rattle.dist_model.specs.Names.{Name}
use Rattle.node_plan.specs.Seen.{seen}
use Rattle.node_connections.proofs.Stands.{no_links}
use Rattle.node_connections.specs.Ahead.{NoneLinkedUpTo}
use Rattle.node_connections.proofs.reaching.behind_links.Goals as goal

pub returns : goal.returns
returns c =
    let m = seen c.args.node.now in
    let same : c.in_ok-clone.field-0 ≡ c.args.peer.now = search rules in
    let P : Name → Type 0 = λ y. NoneLinkedUpTo y c.pids.result m.ends in
    λ peer is. subst P (sym same ∙ same_Some _ peer is) (no_links c.args.peer.now m c.pids.result c.requires)
