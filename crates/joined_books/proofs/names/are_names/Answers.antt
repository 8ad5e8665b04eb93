use Rattle.std.proofs.Common.{◌≡◌, ◌<◌, ◌∙◌, [], ap, arith, get_or, length, sym}
use Rattle.std.proofs.lemmas.List.{length-map}
use borrow.Author.Count.{below_more}
use Rattle.dist_books.specs.Acting.{name_at, names_of}
use Rattle.joined_books.proofs.NodeNames.{name_is}
use Rattle.joined_books.proofs.Tests.{is_not, is_so, list_from_places, name_read, other_read, read, same_read}
use Rattle.joined_books.proofs.names.are_names.Goals as goal

pub returns-then-not-same_name : goal.returns-then-not-same_name
returns-then-not-same_name c =
    let names = c.args.names.now in
    let nodes = c.args.nodes.now in
    let k = c.loop-place.place in
    let within : k < length names = omega arith in
    let also : k < length nodes = omega arith in
    let differ = other_read (get_or names k []) (name_at nodes k) c.index-names-place.result (get_or nodes k c.index-nodes-place.result).0
    c.atom.result.now c.atom-in-loop-place.result.now c.same_name.result
    (read names k c.index-names-place.result [] within c.index-names-place.is)
    (name_read nodes k c.index-nodes-place.result also)
    c.atom.ensures c.atom-in-loop-place.ensures c.same_name.ensures c.if-not-same_name.true in
    is_not (λ e. differ (ap (λ l. get_or l k []) e ∙ sym (name_is nodes k)))

pub loop-place-preserved : goal.loop-place-preserved
loop-place-preserved c =
    let names = c.args.names.now in
    let nodes = c.args.nodes.now in
    let k = c.loop-place.place in
    let within : k < length names = omega arith in
    let also : k < length nodes = omega arith in
    below_more _ _ c.loop-place.invariant
    (same_read (get_or names k []) (name_at nodes k) c.index-names-place.result (get_or nodes k c.index-nodes-place.result).0
    c.atom.result.now c.atom-in-loop-place.result.now c.same_name.result
    (read names k c.index-names-place.result [] within c.index-names-place.is)
    (name_read nodes k c.index-nodes-place.result also)
    c.atom.ensures c.atom-in-loop-place.ensures c.same_name.ensures c.if-not-same_name.false)

pub returns : goal.returns
returns c =
    let names = c.args.names.now in
    let nodes = c.args.nodes.now in
    let lens : length names ≡ length (names_of nodes) = (let m = length-map nodes (λ node. node.0) in omega (arith, m)) in
    is_so (list_from_places names (names_of nodes) [] lens (λ k below. c.loop-place.invariant k (omega arith) ∙ name_is nodes k))
