use Rattle.std.proofs.Common.{◌≡◌, ◌<◌, ◌-◌, ◌^◌, arith, rules, true, false, not}
use Rattle.std.specs.Option.{is_some}
use Rattle.std.specs.FinMap as fm
use Rattle.dist_model.specs.Dialing.{has_name, next_trunk}
use Rattle.dist_model.specs.Names.{same_name}
use Rattle.dist_model.specs.Node.{side_where}
use Rattle.dist_model.specs.Sides.{is_gone}
use Rattle.dist_model.specs.declared.report.Answer.{Answer}
use Rattle.node_connections.proofs.Dialed.{below_most, dials, some_mapped}
use Rattle.node_connections.proofs.Ended.{made_or}
use Rattle.node_connections.specs.Dialed.{dialed_on}
use Rattle.node_plan.specs.Seen.{seen}
use Rattle.node_connections.proofs.dialing.dial.Goals as goal

pub returns : goal.returns
returns c = λ names known.
    let m = seen c.args.node.now in
    let y = c.args.peer.now in
    let own : same_name y m.mint.name ≡ false = search rules in
    let there : has_name y names ≡ true = search (rules, known) in
    let free : is_some (side_where (λ state. not (is_gone state)) y (fm.entries m.sides)) ≡ false = search (rules, some_mapped) in
    let below : m.dialed < 2 ^ 64 - 1 = omega arith in
    rw c.or_refuse.ensures (made_or m _ (Answer.Trunk (next_trunk m)) (dialed_on m y c.args.word) c.dial_next.new.plan c.dial_next.result
    (dials names m y c.args.word own there free (below_most m.dialed below)) c.dial_next.ensures.told c.dial_next.ensures.makes)
