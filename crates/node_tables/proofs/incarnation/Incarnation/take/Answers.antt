use Rattle.std.proofs.Common.{refl, sym, ap, ◌∙◌, List}
use Rattle.dist_model.specs.Calls.{first_message, without_first}
use Rattle.node_tables.specs.Lives.{life_in}
use Rattle.node_tables.specs.declared.life.Life.{Life}
use Rattle.node_tables.proofs.Changed.{none_changes, none_lives}
use Rattle.node_tables.proofs.incarnation.Incarnation.take.Goals as goal

pub returns-in-None-clause-message : goal.returns-in-None-clause-message
returns-in-None-clause-message c =
    let it = c.args.self.now in
    let none = sym (ap (λ (es : List Life). life_in it.mint es c.args.process.now) c.deref.ensures.value) ∙ c.in-None.ensures.none refl in
    sym (ap first_message (none_lives it.mint it.held.items c.args.process.now none))

pub returns-in-None-clause-lives : goal.returns-in-None-clause-lives
returns-in-None-clause-lives c =
    let it = c.args.self.now in
    let none = sym (ap (λ (es : List Life). life_in it.mint es c.args.process.now) c.deref.ensures.value) ∙ c.in-None.ensures.none refl in
    sym (none_changes it.mint it.held.items c.args.process.now without_first none refl)
