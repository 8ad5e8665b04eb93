use Rattle.std.proofs.Common.{◌≡◌, ℕ, ◌+◌, suc, false, ◌<◌, IfNone, Some, List, length, sym, ap, subst, ◌∙◌, arith}
use Rattle.std.specs.FinMap as fm
use Rattle.std.proofs.lemmas.Option.{none-some, same_Some, slice_get-get_or}
use Rattle.std.specs.List.{slice_get}
use Rattle.std.specs.Ordering.{is_lt}
use Rattle.dist_model.specs.Names.{pair_cmp, same_name}
use Rattle.erl_names.specs.Ids.{pid_of}
use Rattle.erl_term.specs.declared.term.Pid.{Pid}
use Rattle.link_core.specs.declared.end.End.{End}
use Rattle.node_tables.proofs.Found.{found, least, none_found, towards}
use Rattle.node_tables.specs.Held.{ends}
use Rattle.node_tables.specs.Linked.{IsFirstLinked, NoneLinked, link_at}
use Rattle.node_tables.specs.declared.life.Life.{Life}
use Rattle.node_tables.proofs.incarnation.Incarnation.first_link_towards.Goals as goal

pub returns-in_err-place-clause-none : goal.returns-in_err-place-clause-none
returns-in_err-place-clause-none c =
    let it = c.args.self.now in
    let P : List Life → Type 0 = (λ l. NoneLinked c.args.node.now l c.args.after (length l)) in
    subst (λ r. IfNone r
    ((p q : Pid) (e : End) → fm.get (ends it) (p, q) ≡ Some e → c.args.after < p.id → same_name q.node c.args.node.now ≡ false)) (sym
    c.from_residual.ensures)
    (none_found it.mint it.held.items c.args.node.now c.args.after (subst P c.deref.ensures.value c.in_err-place.ensures.none))

one_more : (n : ℕ) → suc n ≡ n + 1
one_more n = omega arith

pub returns-in_err-partner-clause-none : goal.returns-in_err-partner-clause-none
returns-in_err-partner-clause-none c =
    let it = c.args.self.now in
    let x = c.index.result.now in
    let place = c.in_ok-place.place in
    let within : place < length it.held.items =
    subst (λ (l : List Life). place < length l) c.deref.ensures.value c.in_ok-place.ensures.within in
    let there : slice_get it.held.items place ≡ Some x = slice_get-get_or it.held.items place x within ∙ ap Some (sym c.index.ensures) in
    let first : IsFirstLinked c.args.node.now it.held.items c.args.after place =
    subst (λ (l : List Life). IsFirstLinked c.args.node.now l c.args.after place) c.deref.ensures.value c.in_ok-place.ensures.at in
    let same : first.life ≡ x = same_Some first.life x (sym first.there ∙ there) in
    absurd (none-some first.link (c.in_err-partner.ensures ∙ ap (link_at c.args.node.now) (sym same) ∙ first.linked))

pub returns-clause-found : goal.returns-clause-found
returns-clause-found c =
    let it = c.args.self.now in
    let x = c.index.result.now in
    let place = c.in_ok-place.place in
    let within : place < length it.held.items =
    subst (λ (l : List Life). place < length l) c.deref.ensures.value c.in_ok-place.ensures.within in
    let there : slice_get it.held.items place ≡ Some x = slice_get-get_or it.held.items place x within ∙ ap Some (sym c.index.ensures) in
    let linked : link_at c.args.node.now x ≡ Some c.in_ok-partner.field-0.now = sym c.in_ok-partner.ensures in
    let one : suc place ≡ place + 1 = one_more place in
    let next : suc place ≡ c.id_at.result = one ∙ sym c.id_at.ensures in
    subst (λ n. fm.get (ends it) (pid_of it.mint n, c.in_ok-partner.field-0.now.0) ≡ Some c.in_ok-partner.field-0.now.1) next
    (found it.mint it.held.items c.args.node.now place x c.in_ok-partner.field-0.now there linked)

pub returns-clause-towards : goal.returns-clause-towards
returns-clause-towards c =
    let it = c.args.self.now in
    let x = c.index.result.now in
    let place = c.in_ok-place.place in
    let within : place < length it.held.items =
    subst (λ (l : List Life). place < length l) c.deref.ensures.value c.in_ok-place.ensures.within in
    let there : slice_get it.held.items place ≡ Some x = slice_get-get_or it.held.items place x within ∙ ap Some (sym c.index.ensures) in
    let linked : link_at c.args.node.now x ≡ Some c.in_ok-partner.field-0.now = sym c.in_ok-partner.ensures in
    towards it.mint it.held.items c.args.node.now place x c.in_ok-partner.field-0.now there linked

pub returns-clause-least : goal.returns-clause-least
returns-clause-least c = λ p q e f l t.
    let it = c.args.self.now in
    let x = c.index.result.now in
    let place = c.in_ok-place.place in
    let within : place < length it.held.items =
    subst (λ (l : List Life). place < length l) c.deref.ensures.value c.in_ok-place.ensures.within in
    let there : slice_get it.held.items place ≡ Some x = slice_get-get_or it.held.items place x within ∙ ap Some (sym c.index.ensures) in
    let linked : link_at c.args.node.now x ≡ Some c.in_ok-partner.field-0.now = sym c.in_ok-partner.ensures in
    let one : suc place ≡ place + 1 = one_more place in
    let next : suc place ≡ c.id_at.result = one ∙ sym c.id_at.ensures in
    let first : IsFirstLinked c.args.node.now it.held.items c.args.after place =
    subst (λ (l : List Life). IsFirstLinked c.args.node.now l c.args.after place) c.deref.ensures.value c.in_ok-place.ensures.at in
    subst (λ n. is_lt (pair_cmp (p, q) (pid_of it.mint n, c.in_ok-partner.field-0.now.0)) ≡ false) next
    (least it.mint it.held.items c.args.node.now place x c.in_ok-partner.field-0.now there linked c.args.after first.before p q e f l t)
