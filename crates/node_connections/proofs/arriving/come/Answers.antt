use Rattle.std.proofs.Common.{◌≡◌, ◌⊎◌, inl, inr, Some, Err, cond, sym, ap, subst, ◌∙◌, rules}
use Rattle.conn_core.specs.Arrivals.{ArrivalDue}
use Rattle.conn_core.specs.declared.arrival.Arrival.{Arrival}
use Rattle.conn_core.specs.declared.arrival.Taken.TheVariants as taken
use Rattle.dist_model.specs.Commands.{Refuses}
use Rattle.dist_model.specs.Handshake.{identity}
use Rattle.dist_model.specs.Work.{at_work}
use Rattle.erl_control.specs.declared.signal.Item.{Item}
use Rattle.erl_term.specs.declared.refusal.Refusal.{Refusal}
use Rattle.node_connections.proofs.Accepted.{wants_memory}
use Rattle.node_connections.proofs.Judged.{IsBroken, IsItem, IsMessage, Judged, judged}
use Rattle.node_connections.proofs.Refused.{over, wanted}
use Rattle.node_connections.proofs.Sent.{item_sent, no_item, same_item, was_sent}
use Rattle.node_connections.specs.Coming.{CanBeSent, PlansBytes, comes}
use Rattle.node_connections.specs.Fronts.{Begins}
use Rattle.node_connections.proofs.Heard.{heard_no_item}
use Rattle.node_plan.specs.Planned.{IsRefused}
use Rattle.node_plan.specs.Seen.{seen}
use Rattle.node_tables.specs.Standings.{side_of}
use Rattle.node_connections.proofs.arriving.come.Goals as goal

pub take_arrival-taken-requires-clause-sent : goal.take_arrival-taken-requires-clause-sent
take_arrival-taken-requires-clause-sent c =
    was_sent c.in-Ok-Some.arrival.was (λ item e. of_item item e
    (judged (identity (seen c.args.node.now)) c.args.side.now c.args.bytes.now c.args.word c.in-Ok-Some.arrival c.requires.settled due))
  where
    due : ArrivalDue (identity (seen c.args.node.now)) c.args.side.now c.args.bytes.now c.args.word (Some c.in-Ok-Some.arrival)
    due = search rules

    of_item : (item : Item) → c.in-Ok-Some.arrival.was ≡ taken.Item item
        → Judged (identity (seen c.args.node.now)) c.args.side.now.peer c.args.side.now.standing c.args.bytes.now c.args.word
        c.in-Ok-Some.arrival → CanBeSent item
    of_item item e (IsItem other len front up is) =
        let same = same_item other item (ap (λ (a : Arrival). a.was) (sym is) ∙ e) in
        subst CanBeSent same (item_sent c.args.side.now.standing c.args.bytes.now other len up front)
    of_item item e (IsMessage message len front live is) =
        let m = seen c.args.node.now in
        let side = c.args.side.now in
        absurd (heard_no_item side.trunk side.peer message c.args.word len (at_work m) side.standing item
        (ap (λ (a : Arrival). a.was) (sym is) ∙ e))
    of_item item e (IsBroken why front live is) = absurd (no_item item why (sym e ∙ ap (λ (a : Arrival). a.was) is))

pub returns-in-Err : goal.returns-in-Err
returns-in-Err c = go c.in-Err.ensures.only
  where
    go : (c.in-Err.e ≡ Refusal.NotLive) ⊎ (c.in-Err.e ≡ Refusal.OutOfMemory)
        → PlansBytes (seen c.args.node.now) (Some (side_of c.args.side.now)) c.args.bytes.now
        (λ front. comes (seen c.args.node.now) c.args.side.now.trunk (Some (side_of c.args.side.now)) front c.args.word) c.args.plan.now
        (Err c.in-Err.e)
    go (inl e) =
        let closed = over c.args.side.now.standing c.args.bytes.now c.requires.settled (c.in-Err.ensures.not_live.0 (ap Err e)) in
        record {
          front = Begins;
          is = closed.1;
          plans = inl (ap (λ b. cond b (Refuses Refusal.NotLive) (Refuses Refusal.NothingThere)) closed.0 ∙ ap Refuses (sym e));
        }
    go (inr e) =
        let m = seen c.args.node.now in
        let side = c.args.side.now in
        let found =
        wanted m side.trunk side.peer c.args.bytes.now c.args.word side.standing c.requires.settled
        (c.in-Err.ensures.memory (ap Err e)) in
        let due = comes m side.trunk (Some (side_of side)) found.front c.args.word in
        record {
          front = found.front;
          is = found.is;
          plans = subst (IsRefused due) (sym e) (wants_memory due found.accepted);
        }
