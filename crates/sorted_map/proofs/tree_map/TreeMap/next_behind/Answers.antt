use Rattle.std.proofs.Common.{rules, ◌∙◌}
use Rattle.sorted_map.proofs.Mapped.{behind, behind_parted, first_behind}
use Rattle.sorted_map.proofs.tree_map.TreeMap.next_behind.Goals as goal

pub returns : goal.returns
returns g c =
    let entries = c.args.self.now.entries in
    let key = c.args.key.now in
    c.first_at.ensures.first (behind g.K.Ord.cmp key) (λ held answer said. search rules)
    (behind_parted g.met.K.Ord.total key entries c.first_at.ensures.sorted)
    ∙ first_behind g.met.K.Ord.total key entries
