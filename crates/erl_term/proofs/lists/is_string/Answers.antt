use Rattle.std.proofs.Common.{◌≡◌, true, not, ap, sym, ◌∙◌, subst, arith}
use Rattle.std.proofs.lemmas.List.{take_all}
use Rattle.std.proofs.lemmas.List.Elements.{All-more, All-same}
use Rattle.erl_term.specs.declared.term.Term.{Term}
use Rattle.erl_term.specs.Canonical.{is_byte}
use Rattle.erl_term.specs.View.{view}
use Rattle.erl_term.proofs.Terms.{too_many, string_of, not_string}
use Rattle.erl_term.proofs.lists.is_string.Goals as goal

pub returns-then-items-gt65535 : goal.returns-then-items-gt65535
returns-then-items-gt65535 c = sym (too_many c.args.items.now (omega arith))

pub loop-item-preserved : goal.loop-item-preserved
loop-item-preserved c =
    All-more (λ t. is_byte (view t) ≡ true) c.args.items.now c.loop-item.item-index c.item-item.result c.loop-item-test.true
    c.loop-item.invariant
    (subst (λ (x : Term). is_byte (view x) ≡ true) c.item-item.is
    (sym c.byte_in.ensures.some ∙ c.is_none.ensures ∙ ap not c.if-is_none.false))

pub returns-then-is_none : goal.returns-then-is_none
returns-then-is_none c =
    sym (not_string c.args.items.now c.loop-item.item-index c.item-item.result c.loop-item-test.true c.item-item.is
    (sym c.byte_in.ensures.some ∙ c.is_none.ensures ∙ ap not c.if-is_none.true))

pub returns : goal.returns
returns c =
    sym (string_of c.args.items.now (omega arith) (All-same (λ t. is_byte (view t) ≡ true) _ _
    (sym (take_all c.loop-item.item-index c.args.items.now (omega arith))) c.loop-item.invariant))
