use Rattle.std.proofs.Common.{refl, true≢false, sym, ap, ◌∙◌, List, Option, subst}
use Rattle.dist_model.specs.Node.{is_living_life}
use Rattle.node_tables.specs.Lives.{life_in}
use Rattle.node_tables.specs.Room.{LinkFits}
use Rattle.node_tables.specs.declared.life.Life.{Life}
use Rattle.node_tables.proofs.Changed.{none_lives, there}
use Rattle.node_tables.proofs.incarnation.Incarnation.reserve_message.Goals as goal

pub returns-in-None-clause-fits : goal.returns-in-None-clause-fits
returns-in-None-clause-fits c living =
    let it = c.args.self.now in
    let none = sym (ap (λ (es : List Life). life_in it.mint es c.args.process.now) c.deref.ensures.value) ∙ c.in-None.ensures.none refl in
    absurd (true≢false (sym living ∙ ap is_living_life (none_lives it.mint it.held.items c.args.process.now none)))

pub returns-in-Some-clause-kept : goal.returns-in-Some-clause-kept
returns-in-Some-clause-kept c change fits =
    let it = c.args.self.now in
    let at = λ (es : List Life). there it.mint es c.args.process.now c.in-Some.place c.in-Some.ensures.pid in
    let P : Option Life → Type 0 = LinkFits change in
    subst P (sym (at c.reserve_message_at.new.held.items)) (c.reserve_message_at.ensures.kept change (subst P (at it.held.items) fits))
