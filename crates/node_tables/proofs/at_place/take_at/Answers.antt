use Rattle.std.proofs.Common.{sym, ap, ◌∙◌, rules}
use Rattle.std.proofs.lemmas.Option.{slice_get_read}
use Rattle.dist_model.specs.Calls.{first_message, without_first}
use Rattle.node_tables.proofs.Changed.{life_at, lives_at, same_ends_at}
use Rattle.node_tables.proofs.at_place.take_at.Goals as goal

pub returns-clause-lives : goal.returns-clause-lives
returns-clause-lives c =
    lives_at c.args.mint.now c.args.held.now.items c.args.place c.index_mut.result.now c.take.new.self c.requires
    (search (rules, slice_get_read)) without_first c.take.ensures.life

pub returns-clause-ends : goal.returns-clause-ends
returns-clause-ends c =
    same_ends_at c.args.mint.now c.args.held.now.items c.args.place c.index_mut.result.now c.take.new.self c.requires
    (search (rules, slice_get_read)) c.take.ensures.links

pub returns-clause-message : goal.returns-clause-message
returns-clause-message c =
    c.take.ensures.message ∙ ap first_message
    (sym (life_at c.args.mint.now c.args.held.now.items c.args.place c.index_mut.result.now (search (rules, slice_get_read))))
