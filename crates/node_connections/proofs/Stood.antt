-- How a side stands, in the node's words and in the model's.
use Rattle.std.proofs.Common.{◌≡◌, true, false, Option, Some, None, refl, sym, ap, ◌∙◌}
use Rattle.std.proofs.lemmas.Bool.{true≢false}
use Rattle.std.proofs.lemmas.Option.{same_Some}
use Rattle.std.specs.FinMap as fm
use Rattle.std.specs.Option.{option_map}
use Rattle.std.specs.FinMap.{FinMap}
use Rattle.conn_core.specs.Side.{lost, state_of as name_of, is_live}
use Rattle.conn_core.specs.declared.standing.Standing.{Standing}
use Rattle.conn_core.specs.declared.standing.Standing.TheVariants as standing
use Rattle.dist_model.specs.Commands.{Accepts, Refuses}
use Rattle.dist_model.specs.Handshake.{set_state, with_side}
use Rattle.dist_model.specs.Losses.{lose_at}
use Rattle.dist_model.specs.Names.{Name}
use Rattle.dist_model.specs.Sides.{State, TrunkSide, in_state, is_gone, is_parked, is_up}
use Rattle.dist_model.specs.Keeping.{is_engaged}
use Rattle.dist_model.specs.Sides as model
use Rattle.dist_model.specs.Work.{Work}
use Rattle.dist_model.specs.declared.report.Answer.{Answer}
use Rattle.erl_handshake.specs.declared.acceptor.AcceptorState.TheVariants as acceptor
use Rattle.erl_handshake.specs.declared.dialer.DialerState.TheVariants as dialer
use Rattle.erl_names.specs.Order.{trunk_cmp}
use Rattle.erl_names.specs.declared.trunk.TrunkId.{TrunkId}
use Rattle.erl_term.specs.declared.refusal.Refusal.{Refusal}
use Rattle.node_plan.specs.Carried.{sided}
use Rattle.node_tables.specs.Changes.{is_gone_in, IsDown, IsTowards, StaysGone, stood_at}
use Rattle.node_tables.specs.Standings.{is_settled, standing_side, state_of}
use Rattle.node_tables.specs.declared.change.SideChange.TheVariants as change
use Rattle.erl_handshake.specs.declared.introduction.Introduction.{Introduction}

-- ---- the side of a connection stands so

stood_towards : (sides : FinMap trunk_cmp TrunkSide) (t : TrunkId) (st : Standing) (y : Name) (o : Option TrunkSide)
    → IsTowards y o → stood_at sides t st o ≡ fm.insert sides t (standing_side y st)
stood_towards sides t st y None h = cc
stood_towards sides t st y (Some s) h = ap (λ z. fm.insert sides t (standing_side z st)) (same_Some s.peer y h)

pub stands : (t : TrunkId) (st : Standing) (y : Name) (work : Work) → IsTowards y (fm.get work.node.sides t)
    → sided (change.Stands t st) work ≡ with_side t (standing_side y st) work
stands t st y work h =
    ap (λ sides. record work { node = record (work.node) { sides = sides } })
    (stood_towards work.node.sides t st y (fm.get work.node.sides t) h)

pub comes_up : (t : TrunkId) (z y : Name) (introduction : Introduction) (work : Work) → IsTowards y (fm.get work.node.sides t)
    → sided (change.ComesUp t z introduction) work ≡ with_side t (standing_side y (standing.Up introduction)) work
comes_up t z y introduction work h =
    ap (λ sides. record work { node = record (work.node) { sides = sides } })
    (stood_towards work.node.sides t (standing.Up introduction) y (fm.get work.node.sides t) h)

pub towards : (sides : FinMap trunk_cmp TrunkSide) (t : TrunkId) (s : TrunkSide) → fm.get sides t ≡ Some s
    → IsTowards s.peer (fm.get sides t)
towards sides t s h = ap (λ o. option_map (λ (v : TrunkSide). v.peer) o) h

-- ---- it is lost

pub lost_down : (st : Standing) → IsDown (lost st)
lost_down (standing.Dialing d) = (refl, refl)
lost_down st = (refl, refl)

pub lost_stands : (y : Name) (st : Standing) → is_settled st ≡ true
    → standing_side y (lost st) ≡ in_state (model.lost (state_of st)) (standing_side y st)
lost_stands y (standing.Dialing (dialer.Done introduction)) h = cc
lost_stands y (standing.Dialing dialer.Over) h = cc
lost_stands y (standing.Accepting acceptor.AwaitsName) h = cc
lost_stands y (standing.Accepting (acceptor.AwaitsAdmission w introduction)) h = cc
lost_stands y (standing.Accepting (acceptor.Done introduction)) h = cc
lost_stands y (standing.Accepting acceptor.Over) h = cc
lost_stands y st h = refl

-- where there is something to lose
pub loses : (st : Standing) (t : TrunkId) (s : TrunkSide) (work : Work) → is_settled st ≡ true → is_live (name_of st) ≡ true
    → lose_at (state_of st) t s work ≡ Accepts Answer.Done (set_state t s (model.lost (state_of st)) work)
loses (standing.Dialing (dialer.AwaitsStatus w)) t s work h l = refl
loses (standing.Dialing (dialer.AwaitsChallenge w)) t s work h l = refl
loses (standing.Dialing (dialer.AwaitsAck w introduction)) t s work h l = refl
loses (standing.Accepting (acceptor.AwaitsAnswer w introduction)) t s work h l = refl
loses (standing.Accepting (acceptor.AwaitsTurn w introduction)) t s work h l = refl
loses (standing.Accepting (acceptor.AwaitsReply w introduction)) t s work h l = refl
loses (standing.Up introduction) t s work h l = refl
loses st t s work h l = cc

pub keeps_none : (st : Standing) (t : TrunkId) (s : TrunkSide) (work : Work) → is_settled st ≡ true
    → is_live (name_of st) ≡ false → lose_at (state_of st) t s work ≡ Refuses Refusal.NotLive
keeps_none (standing.Losing introduction) t s work h l = refl
keeps_none standing.Gone t s work h l = refl
keeps_none (standing.Accepting acceptor.Over) t s work h l = cc
keeps_none st t s work h l = cc

-- ---- a side that is gone stays gone

pub stays : (st : Standing) (o : Option TrunkSide) → is_gone_in o ≡ false → StaysGone st o
stays st o h g = absurd (true≢false (sym g ∙ h))

pub there : (sides : FinMap trunk_cmp TrunkSide) (t : TrunkId) (s : TrunkSide) → fm.get sides t ≡ Some s → is_gone s.state ≡ false
    → is_gone_in (fm.get sides t) ≡ false
there sides t s h n = ap is_gone_in h ∙ n

lost_gone : (st : Standing) → is_gone (state_of st) ≡ true → is_settled st ≡ true → is_gone (state_of (lost st)) ≡ true
lost_gone (standing.Dialing d) g k = refl
lost_gone (standing.Accepting a) g k = refl
lost_gone (standing.Up introduction) g k = cc
lost_gone (standing.Losing introduction) g k = cc
lost_gone standing.Gone g k = refl

pub lost_stays : (sides : FinMap trunk_cmp TrunkSide) (t : TrunkId) (y : Name) (st : Standing) → is_settled st ≡ true
    → fm.get sides t ≡ Some (standing_side y st) → StaysGone (lost st) (fm.get sides t)
lost_stays sides t y st k h g = lost_gone st (sym (ap is_gone_in h) ∙ g) k

-- there is something to lose
pub live_there : (st : Standing) → is_settled st ≡ true → is_live (name_of st) ≡ true → is_gone (state_of st) ≡ false
live_there (standing.Dialing (dialer.AwaitsStatus w)) h l = refl
live_there (standing.Dialing (dialer.AwaitsChallenge w)) h l = refl
live_there (standing.Dialing (dialer.AwaitsAck w introduction)) h l = refl
live_there (standing.Accepting (acceptor.AwaitsAnswer w introduction)) h l = refl
live_there (standing.Accepting (acceptor.AwaitsTurn w introduction)) h l = refl
live_there (standing.Accepting (acceptor.AwaitsReply w introduction)) h l = refl
live_there (standing.Up introduction) h l = refl
live_there st h l = cc

pub not_gone_up : (state : State) → is_up state ≡ true → is_gone state ≡ false
not_gone_up model.Gone h = cc
not_gone_up state h = refl

pub not_gone_parked : (state : State) → is_parked state ≡ true → is_gone state ≡ false
not_gone_parked model.Gone h = cc
not_gone_parked state h = refl

pub not_gone_engaged : (state : State) → is_engaged state ≡ true → is_gone state ≡ false
not_gone_engaged model.Gone h = cc
not_gone_engaged state h = refl
