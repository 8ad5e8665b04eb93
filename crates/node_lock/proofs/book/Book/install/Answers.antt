use Rattle.std.proofs.Common.{List, ap, sym, subst, ◌∙◌, length}
use Rattle.node_lock.proofs.BookedCalls.{installed_as}
use Rattle.node_lock.specs.Books.{wants}
use Rattle.node_lock.specs.Passing.{new_outlet}
use Rattle.node_lock.specs.Seen.{BookSeen}
use Rattle.node_lock.specs.Standing.{IsBook}
use Rattle.node_core.specs.Model.{model_of}
use Rattle.node_history.specs.declared.entry.Entry.{Entry}
use Rattle.node_lock.proofs.book.Book.install.Goals as goal

pub invariant_of-self : goal.invariant_of-self
invariant_of-self c =
    let b = c.self.inside in subst (λ os. IsBook b.names.items b.place b.setup b.history os) (sym c.reserve.ensures.items) c.self.invariant

pub invariant_of-self-in_default : goal.invariant_of-self-in_default
invariant_of-self-in_default c =
    let b = c.self.inside in subst (λ os. IsBook b.names.items b.place b.setup b.history os) (sym c.reserve.ensures.items) c.self.invariant

pub invariant_of-self-2 : goal.invariant_of-self-2
invariant_of-self-2 c =
    let b = c.self.inside in
    installed_as c.books_grow.ensures.rest b.greatest.bytes b.names.items b.place b.setup b.history b.outlets.items
    c.reserve.new.self.items c.push_reserved.new.self.items c.args.offer.trunk c.in-Ok.dialer
    c.new.result
    (ap (λ (s : BookSeen). wants (model_of s.history.node) c.args.offer.trunk s.outlets) c.self.view_is ∙ sym c.wants.ensures
    ∙ c.if-not-wants.false)
    c.reserve.ensures.items c.push_reserved.ensures.items
    (c.new.ensures ∙ ap (λ (es : List Entry). new_outlet b.greatest.bytes c.args.offer.trunk c.in-Ok.dialer (length es))
    c.entries-entry.ensures) c.in-Ok.ensures.cases c.self.invariant
