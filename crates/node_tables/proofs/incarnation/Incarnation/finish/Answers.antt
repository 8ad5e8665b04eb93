use Rattle.std.proofs.Common.{refl, sym, ap, ◌∙◌, List}
use Rattle.node_tables.specs.Lives.{ending, life_in}
use Rattle.node_tables.specs.declared.life.Life.{Life}
use Rattle.node_tables.proofs.Changed.{no_ends_go, none_changes}
use Rattle.node_tables.proofs.incarnation.Incarnation.finish.Goals as goal

pub returns-in_default-clause-lives : goal.returns-in_default-clause-lives
returns-in_default-clause-lives c =
    let it = c.args.self.now in
    let none =
    sym (ap (λ (es : List Life). life_in it.mint es c.args.process.now) c.deref.ensures.value) ∙ c.in_default.ensures.none refl in
    sym (none_changes it.mint it.held.items c.args.process.now (ending c.args.reason) none refl)

pub returns-in_default-clause-ends : goal.returns-in_default-clause-ends
returns-in_default-clause-ends c =
    let it = c.args.self.now in
    let none =
    sym (ap (λ (es : List Life). life_in it.mint es c.args.process.now) c.deref.ensures.value) ∙ c.in_default.ensures.none refl in
    sym (no_ends_go it.mint it.held.items c.args.process.now none)
