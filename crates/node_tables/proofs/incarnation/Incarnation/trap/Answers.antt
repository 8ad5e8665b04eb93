use Rattle.std.proofs.Common.{refl, sym, ap, ◌∙◌, List}
use Rattle.dist_model.specs.Calls.{trapping}
use Rattle.node_tables.specs.Lives.{life_in}
use Rattle.node_tables.specs.declared.life.Life.{Life}
use Rattle.node_tables.proofs.Changed.{none_changes}
use Rattle.node_tables.proofs.incarnation.Incarnation.trap.Goals as goal

pub returns-in_default-clause-lives : goal.returns-in_default-clause-lives
returns-in_default-clause-lives c =
    let it = c.args.self.now in
    let none =
    sym (ap (λ (es : List Life). life_in it.mint es c.args.process.now) c.deref.ensures.value) ∙ c.in_default.ensures.none refl in
    sym (none_changes it.mint it.held.items c.args.process.now (λ life. trapping life c.args.on) none refl)
