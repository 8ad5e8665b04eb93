use Rattle.std.proofs.Common.{rules, ◌∙◌}
use Rattle.std.specs.declared.cmp.Ordering.TheVariants.{Equal}
use Rattle.sorted_map.proofs.Mapped.{all_tied, first_of_all}
use Rattle.sorted_map.proofs.tree_map.TreeMap.first.Goals as goal

pub returns : goal.returns
returns g c =
    let entries = c.args.self.now.entries in
    c.first_at.ensures.first (λ _. Equal) (λ key answer said. search rules) (all_tied entries) ∙ first_of_all entries
