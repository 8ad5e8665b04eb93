use Rattle.std.proofs.Common.{sym, ap, ◌∙◌}
use Rattle.std.specs.Option.{option_map}
use Rattle.node_tables.proofs.RoutesKept.{routed_is}
use Rattle.node_tables.proofs.Seen.{up_held}
use Rattle.node_tables.proofs.sides.Sides.route.Goals as goal

pub returns : goal.returns
returns c =
    let it = c.args.self.now in
    let peer = c.args.peer.now in
    c.get.ensures ∙ routed_is it.routes.entries it.held.items peer it.sorted it.routed
    ∙ ap (option_map (λ entry. entry.0)) (sym (up_held it.held.items it.gone.items it.sorted it.none_gone peer))
