use Rattle.std.proofs.Common.{ap, sym, ◌∙◌, is_none, not}
use Rattle.dist_model.specs.Names.{same_name}
use Rattle.dist_model.specs.Node as model
use Rattle.node_lock.proofs.BookedCalls.{not_not, wants_is}
use Rattle.node_core.specs.Model.{model_of}
use Rattle.node_lock.proofs.book.Book.wants.Goals as goal

pub returns-then-not-same_name : goal.returns-then-not-same_name
returns-then-not-same_name c =
    let b = c.self.inside in
    let m = model_of b.history.node in
    rw (← c.self.view_is) (wants_is m c.args.offer.now.trunk b.outlets.items c.deref.result.now c.is_none.result
    (ap (λ x. same_name c.args.offer.now.trunk.dialer x)
    (sym (c.atom-2.ensures ∙ c.name.ensures ∙ ap (λ (n : model.Node). n.mint.name) c.node.ensures))
    ∙ ap (λ x. same_name x c.atom-2.result.now) (sym c.atom.ensures) ∙ sym c.same_name.ensures ∙ c.if-not-same_name.true)
    c.deref.ensures.value (not_not c.is_none.result ∙ ap not (sym c.is_none.ensures) ∙ ap (λ p. is_none p) c.place_of.ensures))
