use Rattle.std.proofs.Common.{rules, ◌≡◌, map, ap, ◌∙◌}
use Rattle.node_tables.specs.Lives.{life_of, links_of}
use Rattle.node_tables.proofs.Copied.{same_ends, same_lives}
use Rattle.node_tables.proofs.incarnation.Incarnation.copy.Goals as goal

pub returns-clause-lives : goal.returns-clause-lives
returns-clause-lives c =
    let it = c.args.self.now in
    let mint : c.in_ok-clone.field-0 ≡ it.mint = search rules in
    same_lives c.in_ok-clone.field-0 it.mint mint c.in_ok-copies_of_lives.field-0.items it.held.items
    (c.in_ok-copies_of_lives.ensures.lives ∙ ap (map life_of) c.deref.ensures.value)

pub returns-clause-ends : goal.returns-clause-ends
returns-clause-ends c =
    let it = c.args.self.now in
    let mint : c.in_ok-clone.field-0 ≡ it.mint = search rules in
    same_ends c.in_ok-clone.field-0 it.mint mint c.in_ok-copies_of_lives.field-0.items it.held.items
    (c.in_ok-copies_of_lives.ensures.links ∙ ap (map links_of) c.deref.ensures.value)
