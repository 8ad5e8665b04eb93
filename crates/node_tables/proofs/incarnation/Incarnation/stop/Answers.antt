use Rattle.std.proofs.Common.{ap, ◌∙◌, List}
use Rattle.node_tables.specs.Lives.{ends_in, lives_in}
use Rattle.node_tables.specs.declared.life.Life.{Life}
use Rattle.node_tables.proofs.Changed.{no_ends, no_lives}
use Rattle.node_tables.proofs.incarnation.Incarnation.stop.Goals as goal

pub returns-clause-lives : goal.returns-clause-lives
returns-clause-lives c = ap (λ (es : List Life). lives_in c.args.self.now.mint es) c.clear.ensures.items ∙ no_lives c.args.self.now.mint

pub returns-clause-ends : goal.returns-clause-ends
returns-clause-ends c = ap (λ (es : List Life). ends_in c.args.self.now.mint es) c.clear.ensures.items ∙ no_ends c.args.self.now.mint
