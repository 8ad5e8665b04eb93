use Rattle.std.proofs.Common.{◌≡◌, sym, ap, subst, ◌∙◌}
use Rattle.conn_core.specs.Side.{on_message}
use Rattle.conn_core.specs.declared.arrival.Arrival.{Arrival}
use Rattle.conn_core.specs.declared.arrival.Fault.{Fault}
use Rattle.conn_core.specs.declared.arrival.Taken.TheVariants as taken
use Rattle.dist_model.specs.Commands.{Outcome}
use Rattle.dist_model.specs.Handshake.{fault, identity}
use Rattle.dist_model.specs.Work.{at_work}
use Rattle.node_connections.proofs.Heard.{broken_same, heard_breaks, heard_no_item}
use Rattle.node_plan.specs.Planned.{Plans}
use Rattle.node_plan.specs.Seen.{seen}
use Rattle.node_tables.specs.Standings.{side_of}
use Rattle.node_connections.proofs.hearing.hear.Goals as goal

pub returns-in-Broken-clause-message : goal.returns-in-Broken-clause-message
returns-in-Broken-clause-message c = λ message word len e.
    let m = seen c.args.node.now in
    let side = c.args.side.now in
    let why = c.in-Broken.why in
    let was : (on_message (identity m) side.peer side.standing message word len).was ≡ taken.Broken why =
    ap (λ (a : Arrival). a.was) (sym e) ∙ c.in-Broken.is in
    let P : Outcome → Type 0 = λ o. Plans m o c.break_side.new.plan c.break_side.result in
    subst P (sym (heard_breaks side.trunk side.peer message word len (at_work m) side.standing why c.requires.settled was))
    (c.break_side.ensures m (at_work m) c.requires.there c.requires.makes)

pub returns-in-Broken-clause-broken : goal.returns-in-Broken-clause-broken
returns-in-Broken-clause-broken c = λ why e.
    let m = seen c.args.node.now in
    let side = c.args.side.now in
    let same : c.in-Broken.why ≡ why = broken_same c.in-Broken.why why (sym c.in-Broken.is ∙ ap (λ (a : Arrival). a.was) e) in
    let P : Fault → Type 0 = λ f. Plans m (fault f side.trunk (side_of side) (at_work m)) c.break_side.new.plan c.break_side.result in
    subst P same (c.break_side.ensures m (at_work m) c.requires.there c.requires.makes)

pub returns-in-Item-clause-message : goal.returns-in-Item-clause-message
returns-in-Item-clause-message c = λ message word len e.
    let m = seen c.args.node.now in
    let side = c.args.side.now in
    absurd (heard_no_item side.trunk side.peer message word len (at_work m) side.standing c.in-Item.field-0
    (ap (λ (a : Arrival). a.was) (sym e) ∙ c.in-Item.is))
