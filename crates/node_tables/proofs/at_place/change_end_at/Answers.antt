use Rattle.std.proofs.Common.{◌≡◌, suc, Some, rules}
use Rattle.std.proofs.lemmas.Option.{slice_get_read}
use Rattle.std.specs.List.{slice_get}
use Rattle.node_tables.proofs.Edited.{set_puts}
use Rattle.node_tables.proofs.Changed.{end_becomes, placed, same_lives_at}
use Rattle.node_tables.proofs.at_place.change_end_at.Goals as goal

pub returns-clause-lives : goal.returns-clause-lives
returns-clause-lives c =
    same_lives_at c.args.mint.now c.args.held.now.items c.args.place c.index_mut.result.now c.change_end.new.self c.requires.within
    (search (rules, slice_get_read)) c.change_end.ensures.life

pub returns-clause-ends : goal.returns-clause-ends
returns-clause-ends c =
    let m = c.args.mint.now in
    let es = c.args.held.now.items in
    let i = c.args.place in
    let old = c.index_mut.result.now in
    let new = c.change_end.new.self in
    let at : slice_get es i ≡ Some old = search (rules, slice_get_read) in
    end_becomes m es _ (suc i) old new (set_puts m es i new c.requires.within)
    (placed m es i old at) c.args.partner c.args.change c.change_end.ensures.links
