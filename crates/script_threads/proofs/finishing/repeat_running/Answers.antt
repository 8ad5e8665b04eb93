use Rattle.std.proofs.Common.{ap, length, refl, subst, ◌∙◌}
use Rattle.dist_books.specs.Acting.{Nodes}
use Rattle.joined_books.specs.Faults.{IsFault}
use Rattle.script_threads.proofs.EndTold.{unfinished_so}
use Rattle.script_threads.specs.declared.threads.Cast.TheVariants as cast
use Rattle.script_threads.proofs.finishing.repeat_running.Goals as goal

pub returns-clause-err : goal.returns-clause-err
returns-clause-err g c =
    let running = c.args.running in
    let it = c.in-Err.unmerged in
    unfinished_so (cast.Running running) running.some it.books.items running.seats.items refl it.fault c.from.result c.from.ensures
    (λ there. c.in-Err.ensures.books there ∙ ap (λ (nodes : Nodes). length nodes) running.same)
    (subst (λ (nodes : Nodes). IsFault nodes it.books.items running.seats.items it.fault) running.same c.in-Err.ensures.fault.2)
