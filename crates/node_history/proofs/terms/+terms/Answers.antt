use Rattle.node_history.proofs.SameTerms.{not_at, other_items, same_tuples}
use Rattle.std.proofs.Common.{arith}
use Rattle.node_history.proofs.terms.+terms.Goals as goal

pub are_same_terms-returns-then-not-is_same_term : goal.are_same_terms-returns-then-not-is_same_term
are_same_terms-returns-then-not-is_same_term t c =
    not_at c.args.a.now c.args.b.now c.loop-place.place c.index-a-place.result c.index-b-place.result c.is_same_term.result
    c.index-a-place.is c.index-b-place.is
    (omega arith) (omega arith) c.if-not-is_same_term.true c.is_same_term.ensures

pub is_same_term-returns-in-Tuple-Tuple : goal.is_same_term-returns-in-Tuple-Tuple
is_same_term-returns-in-Tuple-Tuple t c =
    same_tuples c.args.a.now c.args.b.now c.in-Tuple-Tuple.a c.in-Tuple-Tuple.b _ _ c.are_same_terms.result
    c.in-Tuple-Tuple.is-0 c.in-Tuple-Tuple.is-1
    c.deref.ensures.value c.deref-in-Tuple-Tuple.ensures.value c.are_same_terms.ensures

pub is_same_term-returns-else-are_same_terms : goal.is_same_term-returns-else-are_same_terms
is_same_term-returns-else-are_same_terms t c =
    let l = c.in-List-List in
    other_items c.args.a.now c.args.b.now l.items l.others l.tail l.end _ _ c.are_same_terms-in-List-List.result l.is-0 l.is-1
    c.deref-in-List-List.ensures.value c.deref-in-List-List-2.ensures.value c.if-are_same_terms.false c.are_same_terms-in-List-List.ensures
