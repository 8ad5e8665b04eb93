use Rattle.std.proofs.Common.{◌≡◌, Some, OnOk, sym, ap, subst, ◌∙◌, rules, Option}
use Rattle.std.proofs.lemmas.Option.{slice_get_read}
use Rattle.std.specs.List.{slice_get}
use Rattle.dist_model.specs.Node.{is_living_life}
use Rattle.node_tables.specs.Room.{LinkFits}
use Rattle.node_tables.specs.declared.end_change.EndChange.TheVariants as end
use Rattle.node_tables.specs.declared.life.Life.{Life}
use Rattle.node_tables.proofs.Edited.{set_same}
use Rattle.node_tables.proofs.Changed.{life_at, same_ends_at, same_lives_at}
use Rattle.node_tables.proofs.at_place.reserve_link_at.Goals as goal

pub returns-clause-lives : goal.returns-clause-lives
returns-clause-lives c =
    same_lives_at c.args.mint.now c.args.held.now.items c.args.place c.index_mut.result.now c.reserve_link.new.self c.requires
    (search (rules, slice_get_read)) c.reserve_link.ensures.life

pub returns-clause-ends : goal.returns-clause-ends
returns-clause-ends c =
    same_ends_at c.args.mint.now c.args.held.now.items c.args.place c.index_mut.result.now c.reserve_link.new.self c.requires
    (search (rules, slice_get_read)) c.reserve_link.ensures.links

pub returns-clause-fits : goal.returns-clause-fits
returns-clause-fits c living change =
    let es = c.args.held.now.items in
    let i = c.args.place in
    let was = life_at c.args.mint.now es i c.index_mut.result.now (search (rules, slice_get_read)) in
    let P : Option Life → Type 0 = λ o. OnOk c.reserve_link.result (LinkFits change o) in
    subst P (sym (set_same es i c.reserve_link.new.self c.requires))
    (c.reserve_link.ensures.fits (ap is_living_life (sym was) ∙ living) change)

pub returns-clause-succeeds : goal.returns-clause-succeeds
returns-clause-succeeds c fits =
    let es = c.args.held.now.items in
    let old = c.index_mut.result.now in
    let at : slice_get es c.args.place ≡ Some old = search (rules, slice_get_read) in
    let P : Option Life → Type 0 = LinkFits end.Links in
    c.reserve_link.ensures.succeeds (subst P at fits)
