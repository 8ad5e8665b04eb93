use Rattle.std.proofs.Common.{◌≡◌, ◌<◌, arith, length, true, rules, sym}
use Rattle.std.specs.Ordering.{eq_by_cmp}
use Rattle.erl_names.specs.Order.{trunk_cmp}
use Rattle.node_lock.proofs.Places.{found_near}
use Rattle.node_lock.proofs.names.place_near.Goals as goal

pub returns-in-Some : goal.returns-in-Some
returns-in-Some c =
    let same : eq_by_cmp trunk_cmp c.args.trunk.now c.in-Some.outlet.now.port.trunk ≡ true = search rules in
    let below : c.args.near < length c.args.outlets.now = search (rules, arith) in
    sym (found_near c.args.trunk.now c.args.near c.args.outlets.now c.in-Some.outlet.now c.requires below
    c.in-Some.ensures.lookup.1 same)
