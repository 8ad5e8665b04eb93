use Rattle.std.proofs.Common.{refl, true≢false, sym, ap, ◌∙◌, List}
use Rattle.dist_model.specs.Node.{is_living_life}
use Rattle.node_tables.specs.Lives.{life_in}
use Rattle.node_tables.specs.declared.life.Life.{Life}
use Rattle.node_tables.proofs.Changed.{none_lives}
use Rattle.node_tables.proofs.incarnation.Incarnation.reserve_link.Goals as goal

pub returns-in-None-clause-fits : goal.returns-in-None-clause-fits
returns-in-None-clause-fits c living change =
    let it = c.args.self.now in
    let none = sym (ap (λ (es : List Life). life_in it.mint es c.args.process.now) c.deref.ensures.value) ∙ c.in-None.ensures.none refl in
    absurd (true≢false (sym living ∙ ap is_living_life (none_lives it.mint it.held.items c.args.process.now none)))
