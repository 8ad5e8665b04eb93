use Rattle.std.proofs.Common.{sym, ap, ◌∙◌, List}
use Rattle.std.specs.List.{find}
use Rattle.std.specs.Option.{option_map}
use Rattle.conn_core.specs.declared.side.Side.{Side}
use Rattle.node_tables.specs.Passing.{passes}
use Rattle.node_tables.specs.Sought.{is_sought}
use Rattle.node_tables.specs.Standings.{entry_of}
use Rattle.node_tables.proofs.Seen.{first_sought, sought_held}
use Rattle.node_tables.proofs.sides.Sides.first_towards.Goals as goal

pub returns : goal.returns
returns c =
    let it = c.args.self.now in
    let peer = c.args.peer.now in
    ap (option_map entry_of) (c.first_towards.ensures
    ∙ ap (λ (l : List Side). find (is_sought (passes c.args.which) peer) l) c.deref.ensures.value)
    ∙ first_sought (passes c.args.which) peer it.held.items
    ∙ sym (sought_held it.held.items it.gone.items it.sorted it.none_gone c.args.which peer)
