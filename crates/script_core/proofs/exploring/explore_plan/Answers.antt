use Rattle.std.proofs.Common.{List, ℕ, subst, sym}
use Rattle.std.specs.Io.KnownBytes.{Appends}
use Rattle.script_core.proofs.ExploredLemmas.{explores}
use Rattle.script_core.specs.Explored.{Explores}
use Rattle.script_core.proofs.exploring.explore_plan.Goals as goal

pub returns-in-Err : goal.returns-in-Err
returns-in-Err g c = c.halted.ensures c.args.options.now.form c.args.options.now.seed (g.W.Write.contents c.args.writer.now)

pub returns-in-Ok-write_whole : goal.returns-in-Ok-write_whole
returns-in-Ok-write_whole g c =
    let form = c.args.options.now.form in
    let seed = c.args.options.now.seed in
    let old = g.W.Write.contents c.args.writer.now in
    let new = g.W.Write.contents c.write_whole.new.writer in
    subst (Explores form seed old new) (sym c.outcome_for.ensures)
    (explores form seed old new c.in-Ok.explored c.in-Ok.ensures
    (subst (λ (text : List ℕ). Appends old new text) c.deref.ensures.value c.in-Ok-write_whole.ensures.ok))
