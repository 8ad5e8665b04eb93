use Rattle.std.proofs.Common.{◌≡◌, ◌⊎◌, inl, inr, ℕ, false, List, Option, Some, cond, sym, ap, subst, ◌∙◌, rules}
use Rattle.conn_core.specs.declared.arrival.Arrival.{Arrival}
use Rattle.conn_core.specs.declared.arrival.Fault.{Fault}
use Rattle.conn_core.specs.declared.arrival.Taken.{Taken}
use Rattle.conn_core.specs.declared.arrival.Taken.TheVariants as taken
use Rattle.dist_model.specs.Arrivals.{arrive, on_up, signal_at}
use Rattle.dist_model.specs.Commands.{Outcome, Refuses}
use Rattle.dist_model.specs.Handshake.{fault, handshake_at, identity}
use Rattle.dist_model.specs.Items.{Handshake, Signalled, Tick}
use Rattle.dist_model.specs.Node.{Node}
use Rattle.dist_model.specs.Sides.{TrunkSide, Up, is_over}
use Rattle.dist_model.specs.Work.{at_work}
use Rattle.erl_control.specs.declared.signal.Item.{Item}
use Rattle.erl_control.specs.declared.signal.Item.TheVariants as frame
use Rattle.erl_handshake.specs.declared.message.ShakeMsg.{ShakeMsg}
use Rattle.erl_names.specs.declared.trunk.TrunkId.{TrunkId}
use Rattle.erl_term.specs.declared.refusal.Refusal.{Refusal}
use Rattle.node_connections.proofs.Judged.{IsBroken, IsItem, IsMessage, Judged, judged}
use Rattle.node_connections.proofs.Sent.{no_item, same_item}
use Rattle.node_connections.specs.Coming.{PlansArrival, comes, item_of}
use Rattle.node_connections.specs.Fronts.{Holds, Spoils}
use Rattle.node_connections.proofs.Heard.{heard_no_item}
use Rattle.node_plan.specs.Planned.{Plans}
use Rattle.node_plan.specs.Seen.{seen}
use Rattle.node_tables.specs.Standings.{side_of, state_of}
use Rattle.node_connections.proofs.arriving.take_arrival.Goals as goal

-- what a frame brings to a side that is up
at_up : (m : Node) (trunk : TrunkId) (side : TrunkSide) (item : Item) (word : ℕ) → side.state ≡ Up
    → on_up trunk side (item_of item) (at_work m) ≡ arrive m trunk (Some side) (Some (item_of item)) word
at_up m trunk side (frame.Signal signal) word up =
    ap (λ state. cond (is_over state) (Refuses Refusal.NotLive) (signal_at state trunk side (Signalled signal false) (at_work m))) (sym up)
at_up m trunk side frame.Tick word up =
    ap (λ state. cond (is_over state) (Refuses Refusal.NotLive) (signal_at state trunk side Tick (at_work m))) (sym up)

neither : {was : Taken} (a : Item) → was ≡ taken.Item a
    → ((message : ShakeMsg) × (send : Option ShakeMsg) × (was ≡ taken.Message message send))
    ⊎ ((why : Fault) × (was ≡ taken.Broken why)) → ⊥
neither a h (inl (message, send, e)) = no_message a message send (sym h ∙ e)
  where
    no_message : (a : Item) (message : ShakeMsg) (send : Option ShakeMsg) → taken.Item a ≡ taken.Message message send → ⊥
    no_message a message send h = cc
neither a h (inr (why, e)) = no_item a why (sym h ∙ e)

pub returns-in-Item : goal.returns-in-Item
returns-in-Item c =
    λ bytes word d.
    go bytes word (judged (identity (seen c.args.node.now)) c.args.side.now bytes word c.args.arrival.now c.requires.settled d)
  where
    go : (bytes : List ℕ) (word : ℕ)
        → Judged (identity (seen c.args.node.now)) c.args.side.now.peer c.args.side.now.standing bytes word c.args.arrival.now
        → PlansArrival (seen c.args.node.now) (side_of c.args.side.now) bytes
        (λ front. comes (seen c.args.node.now) c.args.side.now.trunk (Some (side_of c.args.side.now)) front word)
        c.args.arrival.now.len c.take_item.new.plan c.take_item.result
    go bytes word (IsItem item len front up is) =
        let m = seen c.args.node.now in
        let side = c.args.side.now in
        let same = same_item c.in-Item.item item (sym c.in-Item.is ∙ ap (λ (a : Arrival). a.was) is) in
        let P : Outcome → Type 0 = λ o. Plans m o c.take_item.new.plan c.take_item.result in
        record {
          front = Holds (item_of item) len;
          is = front;
          plans = subst P
              (ap (λ i. on_up side.trunk (side_of side) (item_of i) (at_work m)) same ∙ at_up m side.trunk (side_of side) item word up)
              c.take_item.ensures;
          len_is = ap (λ (a : Arrival). a.len) is;
        }
    go bytes word (IsMessage message len front over is) =
        let side = c.args.side.now in
        absurd (heard_no_item side.trunk side.peer message word len
        (at_work (seen c.args.node.now)) side.standing c.in-Item.item
        (ap (λ (a : Arrival). a.was) (sym is) ∙ c.in-Item.is))
    go bytes word (IsBroken why front over is) = absurd (no_item c.in-Item.item why (sym c.in-Item.is ∙ ap (λ (a : Arrival). a.was) is))

pub returns-in-Message : goal.returns-in-Message
returns-in-Message c =
    λ bytes word d.
    go bytes word (judged (identity (seen c.args.node.now)) c.args.side.now bytes word c.args.arrival.now c.requires.settled d)
  where
    go : (bytes : List ℕ) (word : ℕ)
        → Judged (identity (seen c.args.node.now)) c.args.side.now.peer c.args.side.now.standing bytes word c.args.arrival.now
        → PlansArrival (seen c.args.node.now) (side_of c.args.side.now) bytes
        (λ front. comes (seen c.args.node.now) c.args.side.now.trunk (Some (side_of c.args.side.now)) front word)
        c.args.arrival.now.len c.hear.new.plan c.hear.result
    go bytes word (IsItem item len front up is) =
        let was : c.args.arrival.now.was ≡ taken.Item item = ap (λ (a : Arrival). a.was) is in
        absurd (neither item was (c.in-Message.is))
    go bytes word (IsMessage message len front over is) =
        let m = seen c.args.node.now in
        let side = c.args.side.now in
        let P : Outcome → Type 0 = λ o. Plans m o c.hear.new.plan c.hear.result in
        record {
          front = Holds (Handshake message) len;
          is = front;
          plans = subst P (ap
              (λ b. cond b (Refuses Refusal.NotLive) (handshake_at (state_of side.standing) side.trunk (side_of side) message (at_work m)))
              (sym over)) (c.hear.ensures.message message word len is);
          len_is = search rules;
        }
    go bytes word (IsBroken why front over is) =
        let m = seen c.args.node.now in
        let side = c.args.side.now in
        let P : Outcome → Type 0 = λ o. Plans m o c.hear.new.plan c.hear.result in
        record {
          front = Spoils why;
          is = front;
          plans = subst P
              (ap (λ b. cond b (Refuses Refusal.NotLive) (fault why side.trunk (side_of side) (at_work m))) (sym over))
              (c.hear.ensures.broken why is);
          len_is = ap (λ (a : Arrival). a.len) is;
        }
