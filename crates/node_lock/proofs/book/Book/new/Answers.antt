use Rattle.std.proofs.Common.{ap, sym, subst, ◌∙◌}
use Rattle.dist_model.specs.Runs.{new_node}
use Rattle.node_lock.proofs.BookedCalls.{copied_name, new_kept}
use Rattle.node_lock.specs.Standing.{IsBook}
use Rattle.node_core.specs.Model.{model_of}
use Rattle.node_lock.proofs.book.Book.new.Goals as goal

pub invariant_of-result-2 : goal.invariant_of-result-2
invariant_of-result-2 c =
    let names = c.args.names.items in
    let name = c.in_ok-name.name in
    subst (λ os. IsBook names c.args.place c.args.setup c.new-2.result os) (sym c.new-3.ensures.items)
    (new_kept c.books_grow.ensures.new names c.args.place c.args.setup name c.new-2.result c.requires
    (copied_name names c.args.place name c.index.result.now c.in_ok-name.ensures.cases c.index.ensures)
    (ap model_of c.new-2.ensures.node ∙ c.in_ok-node.ensures ∙ ap (λ k. new_node name k) c.in_ok-clone.ensures.cases)
    c.new-2.ensures.last c.new-2.ensures.entries)
