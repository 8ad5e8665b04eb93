use Rattle.std.proofs.Common.{ℕ, ◌<◌, arith, inl, length, sym, subst, slice_index_or}
use Rattle.std.proofs.lemmas.Bool.Decides.{not_from_Decides}
use borrow.Author.Count.{below_more}
use Rattle.joined_books.proofs.Tests.{no_more, read}
use Rattle.joined_books.specs.Names.{IsInPlace}
use Rattle.node_lock.specs.Seen.{BookSeen}
use Rattle.joined_books.proofs.names.strange_book.Goals as goal

pub returns-then-not-is_in_place : goal.returns-then-not-is_in_place
returns-then-not-is_in_place c =
    inl (record {
      book = c.index-books-place.result;
      within = c.loop-place-test.true;
      is = sym c.index-books-place.is;
      strange = not_from_Decides c.is_in_place.result c.is_in_place.ensures c.if-not-is_in_place.true;
    })

pub loop-place-preserved : goal.loop-place-preserved
loop-place-preserved c =
    let nodes = c.args.nodes.now in
    let books = c.args.books.now in
    let k = c.loop-place.place in
    let here : IsInPlace nodes k c.index-books-place.result = c.is_in_place.ensures.0 c.if-not-is_in_place.false in
    let P : ℕ → Type 0 = λ j. (d : BookSeen) → IsInPlace nodes j (slice_index_or books j d) in
    below_more P k c.loop-place.invariant
    (λ d. subst (IsInPlace nodes k)
    (sym (read books k c.index-books-place.result d c.loop-place-test.true c.index-books-place.is)) here)

pub returns : goal.returns
returns c =
    let nodes = c.args.nodes.now in
    let books = c.args.books.now in
    let each : (k : ℕ) → k < length books → (d : BookSeen) → IsInPlace nodes k (slice_index_or books k d) =
    λ k below. c.loop-place.invariant k (omega arith) in
    let most = no_more nodes books each in
    record { each = λ k d below. each k below d; one_each = omega (arith, most) }
