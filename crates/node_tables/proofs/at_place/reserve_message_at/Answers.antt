use Rattle.std.proofs.Common.{◌≡◌, Some, OnOk, sym, ap, subst, ◌∙◌, rules, Option}
use Rattle.std.proofs.lemmas.Option.{slice_get_read}
use Rattle.std.specs.List.{slice_get}
use Rattle.dist_model.specs.Node.{is_living_life}
use Rattle.node_tables.specs.Room.{LinkFits, MessageFits}
use Rattle.node_tables.specs.declared.life.Life.{Life}
use Rattle.node_tables.proofs.Edited.{set_same}
use Rattle.node_tables.proofs.Changed.{life_at, same_ends_at, same_lives_at}
use Rattle.node_tables.proofs.at_place.reserve_message_at.Goals as goal

pub returns-clause-lives : goal.returns-clause-lives
returns-clause-lives c =
    same_lives_at c.args.mint.now c.args.held.now.items c.args.place c.index_mut.result.now c.reserve_message.new.self c.requires
    (search (rules, slice_get_read)) c.reserve_message.ensures.life

pub returns-clause-ends : goal.returns-clause-ends
returns-clause-ends c =
    same_ends_at c.args.mint.now c.args.held.now.items c.args.place c.index_mut.result.now c.reserve_message.new.self c.requires
    (search (rules, slice_get_read)) c.reserve_message.ensures.links

pub returns-clause-fits : goal.returns-clause-fits
returns-clause-fits c living =
    let es = c.args.held.now.items in
    let i = c.args.place in
    let was = life_at c.args.mint.now es i c.index_mut.result.now (search (rules, slice_get_read)) in
    let P : Option Life → Type 0 = λ o. OnOk c.reserve_message.result (MessageFits o) in
    subst P (sym (set_same es i c.reserve_message.new.self c.requires))
    (c.reserve_message.ensures.fits (ap is_living_life (sym was) ∙ living))

pub returns-clause-succeeds : goal.returns-clause-succeeds
returns-clause-succeeds c fits =
    let es = c.args.held.now.items in
    let old = c.index_mut.result.now in
    let at : slice_get es c.args.place ≡ Some old = search (rules, slice_get_read) in
    let P : Option Life → Type 0 = MessageFits in
    c.reserve_message.ensures.succeeds (subst P at fits)

pub returns-clause-kept : goal.returns-clause-kept
returns-clause-kept c change fits =
    let es = c.args.held.now.items in
    let i = c.args.place in
    let old = c.index_mut.result.now in
    let at : slice_get es i ≡ Some old = search (rules, slice_get_read) in
    let P : Option Life → Type 0 = LinkFits change in
    subst P (sym (set_same es i c.reserve_message.new.self c.requires)) (c.reserve_message.ensures.kept change (subst P at fits))
