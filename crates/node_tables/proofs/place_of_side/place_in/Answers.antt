use Rattle.std.proofs.Common.{rules}
use Rattle.std.proofs.lemmas.Fn.{always_returns_same}
use Rattle.erl_names.specs.Order.{trunk_cmp}
use Rattle.conn_core.specs.declared.side.Side.{Side}
use Rattle.node_tables.proofs.Placed.{searched_sides}
use Rattle.node_tables.proofs.place_of_side.place_in.Goals as goal

-- the closure compares a side's connection with the one that is sought
pub returns : goal.returns
returns c =
    let facts = c.binary_search_by.ensures in
    let by_trunk =
    facts.position (λ (side : Side). trunk_cmp side.trunk c.args.trunk.now)
    (always_returns_same _ _ _ (λ a r f' called. (search rules, search rules))) in
    searched_sides c.args.held.now c.args.trunk.now _ c.requires facts.bound by_trunk
