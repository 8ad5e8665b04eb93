use Rattle.std.proofs.Common.{sym, ap, ◌∙◌, List}
use Rattle.conn_core.specs.declared.side.Side.{Side}
use Rattle.dist_model.specs.Losses.{any_side}
use Rattle.dist_model.specs.Sides.{is_losing}
use Rattle.node_tables.proofs.Lost.{lost_read, none_lost}
use Rattle.node_tables.proofs.Seen.{losing_held}
use Rattle.node_tables.specs.Standings.{entries_of, lost_place}
use Rattle.node_tables.proofs.sides.Sides.first_losing.Goals as goal

pub returns-in-Some : goal.returns-in-Some
returns-in-Some c =
    let it = c.args.self.now in
    let held = c.as_slice-held.result.now in
    let first = ap lost_place c.as_slice-held.ensures.value ∙ sym it.first_lost ∙ c.in-Some.is in
    lost_read held c.in-Some.at c.get.result first c.get.ensures.lookup
    ∙ ap (λ (l : List Side). any_side is_losing (entries_of l)) c.as_slice-held.ensures.value
    ∙ sym (losing_held it.held.items it.gone.items it.sorted it.none_gone)

pub returns-in-None : goal.returns-in-None
returns-in-None c =
    let it = c.args.self.now in
    sym (losing_held it.held.items it.gone.items it.sorted it.none_gone ∙ none_lost it.held.items (sym it.first_lost ∙ c.in-None.is))
