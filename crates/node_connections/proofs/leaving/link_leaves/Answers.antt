use Rattle.std.proofs.Common.{◌≡◌, true, false, rules, sym, ◌∙◌}
use Rattle.dist_model.specs.Node.{traps}
use Rattle.link_core.specs.Table.{is_active}
use Rattle.node_plan.specs.Seen.{seen}
use Rattle.node_connections.proofs.Swept.{ended_leaves}
use Rattle.node_connections.proofs.leaving.link_leaves.Goals as goal

pub returns-then-not-traps : goal.returns-then-not-traps
returns-then-not-traps c =
    let m = seen c.args.node.now in
    let p = c.args.process.now in
    let link = c.args.link.now in
    let active : is_active link.end ≡ true = search rules in
    let goes : traps m p ≡ false = search rules in
    c.leaves_by_end.ensures ∙ sym (ended_leaves c.args.peer.now p link.partner.now m link.end active goes)
