use Rattle.std.proofs.Common.{◌≡◌, suc, Some, ap, rules}
use Rattle.std.proofs.lemmas.Option.{slice_get_read}
use Rattle.std.specs.List.{slice_get}
use Rattle.node_tables.specs.Lives.{ending}
use Rattle.node_tables.proofs.Edited.{set_puts}
use Rattle.node_tables.proofs.Changed.{ends_go, lives_at, placed}
use Rattle.node_tables.proofs.at_place.end_at.Goals as goal

pub returns-clause-lives : goal.returns-clause-lives
returns-clause-lives c =
    lives_at c.args.mint.now c.args.held.now.items c.args.place c.index_mut.result.now c.end_for.new.self c.requires
    (search (rules, slice_get_read)) (ending c.args.reason) (ap Some c.end_for.ensures.life)

pub returns-clause-ends : goal.returns-clause-ends
returns-clause-ends c =
    let m = c.args.mint.now in
    let es = c.args.held.now.items in
    let i = c.args.place in
    let old = c.index_mut.result.now in
    let new = c.end_for.new.self in
    let at : slice_get es i ≡ Some old = search (rules, slice_get_read) in
    ends_go m es _ (suc i) old new (set_puts m es i new c.requires) (placed m es i old at) c.end_for.ensures.links
