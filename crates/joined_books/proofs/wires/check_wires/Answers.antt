use Rattle.std.proofs.Common.{◌≡◌, ap₂, subst, sym, ℕ}
use Rattle.erl_names.specs.declared.trunk.TrunkId.{TrunkId}
use Rattle.dist_model.specs.Names.{Name}
use Rattle.joined_books.specs.Wires.{IsTornIn}
use Rattle.joined_books.proofs.wires.check_wires.Goals as goal

one_trunk : (t u : TrunkId) → t.dialer ≡ u.dialer → t.count ≡ u.count → t ≡ u
one_trunk t u p q = ap₂ (λ (name : Name) (count : ℕ). record { dialer = name; count = count }) p q

pub returns-in-Some-clause-err : goal.returns-in-Some-clause-err
returns-in-Some-clause-err c = λ nodes seats places.
    let copy = c.in_ok-clone.ensures.cases in
    let books = c.args.books.now in
    let P : TrunkId → Type 0 = λ t. IsTornIn books c.book-item.result t c.in-Some.field-0.seq in (
      places,
      record {
        book = c.book-item.result;
        there = (c.loop-book.book-index, c.loop-book-test.true, sym c.book-item.is);
        torn = subst P (sym (one_trunk c.in_ok-clone.field-0 c.in-Some.field-0.trunk.now copy.0 copy.1)) c.in-Some.ensures;
      },
    )
