use Rattle.std.proofs.Common.{ap, ◌∙◌}
use Rattle.erl_names.specs.Draw as draw
use Rattle.erl_names.specs.Minted.{Minted}
use Rattle.node_tables.specs.Lives.{ends_in, lives_in}
use Rattle.node_tables.proofs.Changed.{ends_drawn, lives_drawn}
use Rattle.node_tables.proofs.incarnation.Incarnation.next_reference.Goals as goal

pub returns-clause-lives : goal.returns-clause-lives
returns-clause-lives c =
    let it = c.args.self.now in
    ap (λ (m : Minted). lives_in m it.held.items) c.next_reference.ensures.drawn ∙ lives_drawn it.mint draw.Reference it.held.items

pub returns-clause-ends : goal.returns-clause-ends
returns-clause-ends c =
    let it = c.args.self.now in
    ap (λ (m : Minted). ends_in m it.held.items) c.next_reference.ensures.drawn ∙ ends_drawn it.mint draw.Reference it.held.items
