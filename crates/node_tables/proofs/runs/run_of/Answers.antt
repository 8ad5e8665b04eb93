use Rattle.std.proofs.Common.{Option, None, Some, cond, sym, ap, ◌∙◌}
use Rattle.sorted_map.proofs.Slices.{read_at}
use Rattle.node_tables.specs.Runs.{side_in}
use Rattle.node_tables.specs.declared.run.Run.{Run}
use Rattle.node_tables.proofs.Buried.{gone_there, there}
use Rattle.node_tables.proofs.runs.run_of.Goals as goal

pub returns-then-has : goal.returns-then-has
returns-then-has c =
    let runs = c.args.runs.now in
    let q = c.args.trunk.now in
    let at = c.place_among.result in
    let run = c.in-Some.run'.now in
    sym (ap (λ b. cond b (Some (side_in run)) None) (sym c.has.ensures ∙ c.if-has.true))
    ∙ ap (λ (o : Option Run). there o q) (read_at runs at (Some c.in-Some.run') c.in-Some.ensures.lookup)
    ∙ sym (gone_there q runs at c.requires c.place_among.ensures.parts)

pub returns-else-has : goal.returns-else-has
returns-else-has c =
    let runs = c.args.runs.now in
    let q = c.args.trunk.now in
    let at = c.place_among.result in
    let run = c.in-Some.run'.now in
    sym (ap (λ b. cond b (Some (side_in run)) None) (sym c.has.ensures ∙ c.if-has.false))
    ∙ ap (λ (o : Option Run). there o q) (read_at runs at (Some c.in-Some.run') c.in-Some.ensures.lookup)
    ∙ sym (gone_there q runs at c.requires c.place_among.ensures.parts)

pub returns-in-None : goal.returns-in-None
returns-in-None c =
    let runs = c.args.runs.now in
    let q = c.args.trunk.now in
    let at = c.place_among.result in
    ap (λ (o : Option Run). there o q) (read_at runs at None c.in-None.ensures.lookup)
    ∙ sym (gone_there q runs at c.requires c.place_among.ensures.parts)
