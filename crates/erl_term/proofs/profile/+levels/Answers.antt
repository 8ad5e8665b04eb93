use Rattle.std.proofs.Common.{◌≤◌, sym, subst, arith, refl, ◌∙◌}
use Rattle.std.proofs.lemmas.Bool.{false≢true}
use Rattle.std.proofs.lemmas.List.{take_all}
use Rattle.std.proofs.lemmas.List.Elements.{All-more, All-same}
use Rattle.erl_term.specs.Canonical.{levels_of}
use Rattle.erl_term.specs.View.{view}
use Rattle.erl_term.proofs.Terms.{tuple_levels, list_levels, improper_levels, improper_no_levels, view-tuple, view-list, view-improper}
use Rattle.erl_term.proofs.profile.+levels.Goals as goal

pub have_levels-loop-item-preserved : goal.have_levels-loop-item-preserved
have_levels-loop-item-preserved t c =
    All-more (λ t. levels_of (view t) ≤ c.args.levels) c.args.items.now c.loop-item.item-index c.item-item.result
    c.loop-item-test.true c.loop-item.invariant
    (subst (λ x. levels_of (view x) ≤ c.args.levels) c.item-item.is (c.has_levels.ensures.0 c.if-not-has_levels.false))

pub have_levels-returns : goal.have_levels-returns
have_levels-returns t c = (
  λ h. All-same (λ t. levels_of (view t) ≤ c.args.levels) _ _
      (sym (take_all c.loop-item.item-index c.args.items.now (omega arith))) c.loop-item.invariant,
  λ h. refl,
)

pub has_levels-returns-in-Tuple : goal.has_levels-returns-in-Tuple
has_levels-returns-in-Tuple t c =
    rw (view-tuple c.args.term.now c.in-Tuple.items c.in-Tuple.is) (tuple_levels c.in-Tuple.items.items c.args.levels c.have_levels.result
    (omega arith) (rw c.deref.ensures.value at c.have_levels.ensures))

pub has_levels-returns-else-is_string : goal.has_levels-returns-else-is_string
has_levels-returns-else-is_string t c =
    let a = c.in-List in
    rw (view-list c.args.term.now a.items a.tail a.is c.in-None.is)
    (list_levels a.items.items c.args.levels c.have_levels-else-is_string.result (omega arith)
    (rw c.deref-in-None.ensures.value at (sym c.is_string.ensures ∙ c.if-is_string.false))
    (rw c.deref-else-is_string.ensures.value at c.have_levels-else-is_string.ensures))

pub has_levels-returns-then-have_levels : goal.has_levels-returns-then-have_levels
has_levels-returns-then-have_levels t c =
    let a = c.in-List in
    let b = c.in-Some in
    rw (view-improper c.args.term.now a.items a.tail b.tail a.is b.is)
    (improper_levels a.items.items (view b.tail.value) c.args.levels c.has_levels.result (omega arith)
    (rw c.deref-in-Some.ensures.value at (c.have_levels-in-Some.ensures.0 c.if-have_levels.true))
    (rw c.deref-then-have_levels.ensures at c.has_levels.ensures))

pub has_levels-returns-else-have_levels : goal.has_levels-returns-else-have_levels
has_levels-returns-else-have_levels t c =
    let a = c.in-List in
    let b = c.in-Some in
    rw (view-improper c.args.term.now a.items a.tail b.tail a.is b.is, c.if-have_levels.false)
    (improper_no_levels a.items.items (view b.tail.value) c.args.levels (omega arith)
    (λ h. false≢true (sym c.if-have_levels.false ∙ c.have_levels-in-Some.ensures.1 (rw c.deref-in-Some.ensures.value h))))
