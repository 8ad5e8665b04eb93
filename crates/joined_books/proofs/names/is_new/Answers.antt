use Rattle.std.proofs.Common.{◌<◌, arith, get_or, length}
use borrow.Author.Count.{below_more}
use Rattle.dist_books.specs.Acting.{name_at}
use Rattle.joined_books.proofs.Tests.{is_not, name_read, other_read, same_read}
use Rattle.joined_books.proofs.names.is_new.Goals as goal

pub returns-then-same_name : goal.returns-then-same_name
returns-then-same_name c =
    let nodes = c.args.nodes.now in
    let k = c.loop-other.other in
    let within : k < length nodes = omega arith in
    let same =
    same_read (name_at nodes k) (name_at nodes c.args.place) (get_or nodes k c.index-nodes-other.result).0
    (get_or nodes c.args.place c.index-nodes-place.result).0
    c.atom.result.now c.atom-in-loop-other.result.now c.same_name.result
    (name_read nodes k c.index-nodes-other.result within)
    (name_read nodes c.args.place c.index-nodes-place.result c.requires)
    c.atom.ensures c.atom-in-loop-other.ensures c.same_name.ensures c.if-same_name.true in
    is_not (λ new. new k (omega arith) same)

pub loop-other-preserved : goal.loop-other-preserved
loop-other-preserved c =
    let nodes = c.args.nodes.now in
    let k = c.loop-other.other in
    let within : k < length nodes = omega arith in
    below_more _ _ c.loop-other.invariant
    (other_read (name_at nodes k) (name_at nodes c.args.place) (get_or nodes k c.index-nodes-other.result).0
    (get_or nodes c.args.place c.index-nodes-place.result).0
    c.atom.result.now c.atom-in-loop-other.result.now c.same_name.result
    (name_read nodes k c.index-nodes-other.result within)
    (name_read nodes c.args.place c.index-nodes-place.result c.requires)
    c.atom.ensures c.atom-in-loop-other.ensures c.same_name.ensures c.if-same_name.false)
