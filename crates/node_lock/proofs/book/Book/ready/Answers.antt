use Rattle.std.proofs.Common.{ap, ◌∙◌}
use Rattle.std.specs.Option.{option_copied}
use Rattle.node_lock.proofs.BookedCalls.{ready_at, unready_at}
use Rattle.node_lock.specs.Applying.{is_ready}
use Rattle.node_core.specs.Model.{model_of}
use Rattle.node_lock.proofs.book.Book.ready.Goals as goal

pub returns-in-Some : goal.returns-in-Some
returns-in-Some c =
    let b = c.self.inside in
    rw (← c.self.view_is) (c.is_ready.ensures ∙ ap (λ m. is_ready m c.args.trunk.now (option_copied c.first.result)) c.node.ensures
    ∙ ap (λ q. is_ready (model_of b.history.node) c.args.trunk.now q) c.first.ensures
    ∙ ready_at (model_of b.history.node) c.args.trunk.now b.outlets.items c.deref.result.now c.in-Some.at c.index.result.now
    c.deref.ensures.value c.in-Some.ensures c.index.ensures)

pub returns-in-None : goal.returns-in-None
returns-in-None c =
    let b = c.self.inside in
    rw (← c.self.view_is)
    (unready_at (model_of b.history.node) c.args.trunk.now b.outlets.items c.deref.result.now c.deref.ensures.value c.in-None.ensures)
