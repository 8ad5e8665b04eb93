use Rattle.std.proofs.Common.{◌≡◌, refl, ap, sym, ◌∙◌}
use Rattle.std.specs.Prelude.{Some, map}
use Rattle.erl_term.specs.Data.{Data, Items, improper}
use Rattle.erl_term.specs.declared.term.Term.TheVariants as term
use Rattle.erl_term.specs.View.{view, items_of}
use Rattle.erl_term.proofs.Terms.{view-improper}
use Rattle.erl_term.proofs.copying.+copy.Goals as goal

both : (ts us : Items) (a b : Data) → ts ≡ us → a ≡ b → improper ts a ≡ improper us b
both ts us a b e f = ap (λ x. improper x a) e ∙ ap (improper us) f

pub copy_of-returns-in_ok-tail-in-Some : goal.copy_of-returns-in_ok-tail-in-Some
copy_of-returns-in_ok-tail-in-Some t c =
    let items = ap items_of (c.in_ok-items-in-List.ensures ∙ ap (map view) c.deref-in-List.ensures.value) in
    let tail = ap view (c.in_ok-tail-in-Some.ensures.ok) ∙ c.in_ok-copy_of-in-Some.ensures ∙ ap view c.deref-in-Some.ensures in
    view-improper (term.List c.in_ok-items-in-List.items (Some c.in_ok-tail-in-Some.tail)) _ _ _ refl refl
    ∙ both _ _ _ _ items tail
    ∙ sym (view-improper c.args.term.now _ _ _ c.in-List.is c.in-Some.is)
