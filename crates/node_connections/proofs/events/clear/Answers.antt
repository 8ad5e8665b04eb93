use Rattle.std.proofs.Common.{◌≡◌, Some, rules}
use Rattle.dist_model.specs.Losses.{OfRegistration, least_record}
use Rattle.node_plan.specs.Seen.{seen}
use Rattle.node_connections.proofs.Cleared.{registered_from}
use Rattle.node_connections.proofs.events.clear.Goals as goal

pub clear_registration-requires-clause-first : goal.clear_registration-requires-clause-first
clear_registration-requires-clause-first c =
    let m = seen c.args.node.now in
    let r = c.in-Registration.registration.now.0 in
    let is : least_record c.args.side.now.peer m ≡ Some (OfRegistration r) = search rules in
    registered_from c.args.side.now.peer m r is
