use Rattle.std.proofs.Common.{sym, subst, arith, refl, ◌∙◌}
use Rattle.std.proofs.lemmas.Bool.{false≢true}
use Rattle.std.proofs.lemmas.List.{take_all}
use Rattle.std.proofs.lemmas.List.Elements.{All-more, All-same}
use Rattle.erl_term.specs.Canonical.{IsInRange}
use Rattle.erl_term.specs.View.{view}
use Rattle.erl_term.proofs.Terms.{can_stand, cannot_stand, improper_in_range, improper_not_end, improper_not_stand, view-improper}
use Rattle.erl_term.proofs.profile.+range.Goals as goal
use Rattle.erl_term.proofs.profile.+range.Goals.{is_in_range-then-can_end, is_in_range-else-can_end}

pub are_in_range-loop-item-preserved : goal.are_in_range-loop-item-preserved
are_in_range-loop-item-preserved t c =
    All-more
    (λ t. IsInRange (view t)) c.args.items.now c.loop-item.item-index c.item-item.result c.loop-item-test.true c.loop-item.invariant
    (subst (λ x. IsInRange (view x)) c.item-item.is (c.is_in_range.ensures.0 c.if-not-is_in_range.false))

pub are_in_range-returns : goal.are_in_range-returns
are_in_range-returns t c = (
  λ h.
      All-same (λ t. IsInRange (view t)) _ _ (sym (take_all c.loop-item.item-index c.args.items.now (omega arith))) c.loop-item.invariant,
  λ h. refl,
)

pub can_stand-returns-then-has_count : goal.can_stand-returns-then-has_count
can_stand-returns-then-has_count t c =
    can_stand c.args.items.now c.are_in_range.result (c.has_count.ensures.0 c.if-has_count.true) c.are_in_range.ensures

pub can_stand-returns-else-has_count : goal.can_stand-returns-else-has_count
can_stand-returns-else-has_count t c =
    rw c.if-has_count.false (cannot_stand c.args.items.now (λ lt. false≢true (sym c.if-has_count.false ∙ c.has_count.ensures.1 lt)))

pub is_in_range-returns-then-can_stand : goal.is_in_range-returns-then-can_stand
is_in_range-returns-then-can_stand t c =
    let a = c.in-List in
    let b = c.in-Some in
    elim c.if-can_end.branch [
      | is_in_range-then-can_end w ↦
          rw (view-improper c.args.term.now a.items a.tail b.tail a.is b.is)
          (improper_in_range a.items.items (view b.tail.value) c.is_in_range.result
          (rw (c.deref-in-Some.ensures.value, c.deref-in-Some-2.ensures) at (c.can_end.ensures.0 w.if-can_end.true))
          (rw w.deref-then-can_end.ensures.value at (w.can_stand-then-can_end.ensures.0 (sym w.value-is ∙ c.if-can_stand.true)))
          (rw c.deref-then-can_stand.ensures at c.is_in_range.ensures))
      | is_in_range-else-can_end w ↦ absurd (false≢true (sym w.if-can_end.false ∙ sym w.value-is ∙ c.if-can_stand.true))
    ]

pub is_in_range-returns-else-can_stand : goal.is_in_range-returns-else-can_stand
is_in_range-returns-else-can_stand t c =
    let a = c.in-List in
    let b = c.in-Some in
    rw (view-improper c.args.term.now a.items a.tail b.tail a.is b.is, c.if-can_stand.false)
    (elim c.if-can_end.branch [
      | is_in_range-then-can_end w ↦
          improper_not_stand a.items.items (view b.tail.value) (λ h. false≢true
          (sym c.if-can_stand.false ∙ w.value-is ∙ w.can_stand-then-can_end.ensures.1 (rw w.deref-then-can_end.ensures.value h)))
      | is_in_range-else-can_end w ↦
          improper_not_end a.items.items (view b.tail.value) (λ h.
          false≢true (sym w.if-can_end.false ∙ c.can_end.ensures.1 (rw (c.deref-in-Some.ensures.value, c.deref-in-Some-2.ensures) h)))
    ])
