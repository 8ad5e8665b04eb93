use Rattle.std.proofs.Common.{◌≡◌, Some, None, true, rules, sym, ap, ◌∙◌}
use Rattle.std.specs.FinMap as fm
use Rattle.conn_core.specs.declared.standing.Standing.TheVariants as standing
use Rattle.dist_model.specs.Handshake.{send_challenge_or_park, up_is_lost, with_side, write_if}
use Rattle.dist_model.specs.Items.{Handshake, kind_of}
use Rattle.dist_model.specs.Node.{side_where}
use Rattle.dist_model.specs.Sides.{is_gone, is_up}
use Rattle.dist_model.specs.Work.{at_work}
use Rattle.dist_model.specs.declared.report.Answer.{Answer}
use Rattle.erl_handshake.specs.declared.acceptor.AcceptorState.TheVariants as acceptor
use Rattle.node_connections.proofs.Beside.{alone, asked_is}
use Rattle.node_connections.proofs.Heard.{asked_heard, heard_goes, went_on}
use Rattle.node_connections.proofs.Stood.{there, towards}
use Rattle.node_connections.specs.Waiting.{asked_in}
use Rattle.node_plan.proofs.Outcomes.{made_by}
use Rattle.node_plan.specs.Seen.{seen}
use Rattle.node_tables.specs.Standings.{is_settled, side_of, standing_side, state_of}
use Rattle.node_connections.proofs.hearing.take_message.Goals as goal

pub go_on-requires-clause-there : goal.go_on-requires-clause-there
go_on-requires-clause-there c =
    let m = seen c.args.node.now in
    let side = c.args.side.now in
    let asked : asked_in side.standing ≡ Some (c.in-Some.challenge, c.in-Some.introduction) = search rules in
    let is = asked_is side.standing c.in-Some.challenge c.in-Some.introduction asked in
    there m.sides side.trunk (side_of side) c.requires.there (ap (λ x. is_gone (state_of x)) is)

pub returns-in-Some : goal.returns-in-Some
returns-in-Some c = λ came word len was stands.
    let m = seen c.args.node.now in
    let side = c.args.side.now in
    let w = c.in-Some.challenge in
    let introduction = c.in-Some.introduction in
    let asked : asked_in side.standing ≡ Some (w, introduction) = search rules in
    let is = asked_is side.standing w introduction asked in
    let s = standing_side side.peer (standing.Accepting (acceptor.AwaitsAnswer w introduction)) in
    let due = send_challenge_or_park side.trunk s w (up_is_lost (side_where is_up side.peer (fm.entries m.sides)) (at_work m)) in
    rw c.or_refuse.ensures (made_by m _ (Answer.Took (kind_of (Handshake c.args.message.now))) due c.go_on.new.plan c.go_on.result
    (asked_heard side.trunk side.peer came c.args.message.now word len c.args.send.now (at_work m) side.standing w introduction is was)
    (c.go_on.ensures.told m ∙ c.answers.ensures.told m ∙ ap Answer.Took c.kind.ensures)
    (c.go_on.ensures.makes (c.answers.ensures.makes m (at_work m) c.requires.makes)))

pub returns-in-None : goal.returns-in-None
returns-in-None c = λ came word len was stands.
    let m = seen c.args.node.now in
    let side = c.args.side.now in
    let st = c.args.standing in
    let asked : asked_in side.standing ≡ None = search rules in
    let g =
    heard_goes side.trunk side.peer came c.args.message.now word len c.args.send.now
    (at_work m) side.standing c.requires.settled asked was in
    let settled : is_settled st ≡ true = ap is_settled (sym stands) ∙ g.settled in
    let due = write_if side.trunk side.peer c.args.send.now (with_side side.trunk (standing_side side.peer st) (at_work m)) in
    rw c.or_refuse-in-None.ensures (made_by m _ (Answer.Took (kind_of (Handshake c.args.message.now))) due c.take.new.plan c.take.result
    (g.goes ∙ ap (λ x. went_on side.trunk side.peer (standing_side side.peer x) c.args.message.now c.args.send.now (at_work m)) stands)
    (c.take.ensures.told m ∙ c.answers.ensures.told m ∙ ap Answer.Took c.kind.ensures)
    (c.take.ensures.makes m (at_work m) settled (towards m.sides side.trunk (side_of side) c.requires.there)
    (λ u. alone m side.trunk (side_of side) c.args.node.now.steady.engaged c.requires.there
    (g.engaged (ap (λ x. is_up (state_of x)) stands ∙ u)))
    (there m.sides side.trunk (side_of side) c.requires.there g.there)
    (c.answers.ensures.makes m (at_work m) c.requires.makes)))
