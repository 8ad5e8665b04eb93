use Rattle.std.proofs.Common.{rules}
use Rattle.std.proofs.lemmas.Option.{slice_get_read}
use Rattle.dist_model.specs.Work.{delivered}
use Rattle.node_tables.proofs.Changed.{lives_at, same_ends_at}
use Rattle.node_tables.proofs.at_place.put_at.Goals as goal

pub returns-clause-lives : goal.returns-clause-lives
returns-clause-lives c =
    lives_at c.args.mint.now c.args.held.now.items c.args.place c.index_mut.result.now c.put.new.self c.requires.within
    (search (rules, slice_get_read)) (λ life. delivered life c.args.message) c.put.ensures.life

pub returns-clause-ends : goal.returns-clause-ends
returns-clause-ends c =
    same_ends_at c.args.mint.now c.args.held.now.items c.args.place c.index_mut.result.now c.put.new.self c.requires.within
    (search (rules, slice_get_read)) c.put.ensures.links
