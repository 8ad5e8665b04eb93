use Rattle.std.proofs.Common.{◌≡◌, Option, Some, true, false, refl, rules, sym, subst}
use Rattle.std.specs.FinMap as fm
use Rattle.conn_core.specs.declared.standing.Standing.{Standing}
use Rattle.conn_core.specs.declared.standing.Standing.TheVariants as standing
use Rattle.dist_model.specs.Sides.{TrunkSide, is_gone}
use Rattle.erl_handshake.specs.declared.acceptor.AcceptorState.TheVariants as acceptor
use Rattle.erl_handshake.specs.declared.dialer.DialerState.TheVariants as dialer
use Rattle.erl_names.specs.declared.trunk.TrunkId.{TrunkId}
use Rattle.node_connections.specs.Coming.{PlansBytes, comes}
use Rattle.node_plan.specs.Seen.{seen}
use Rattle.node_tables.specs.Standings.{is_settled, side_of, state_of}
use Rattle.node_connections.proofs.arriving.arrive.Goals as goal

left : (st : Standing) → is_settled st ≡ true → (st ≡ standing.Gone → ⊥) → is_gone (state_of st) ≡ false
left (standing.Dialing (dialer.AwaitsStatus w)) h n = refl
left (standing.Dialing (dialer.AwaitsChallenge w)) h n = refl
left (standing.Dialing (dialer.AwaitsAck w introduction)) h n = refl
left (standing.Accepting (acceptor.AwaitsAnswer w introduction)) h n = refl
left (standing.Accepting (acceptor.AwaitsTurn w introduction)) h n = refl
left (standing.Accepting (acceptor.AwaitsReply w introduction)) h n = refl
left (standing.Up introduction) h n = refl
left (standing.Losing introduction) h n = refl
left standing.Gone h n = absurd (n refl)
left st h n = cc

pub returns-in_default : goal.returns-in_default
returns-in_default c =
    let m = seen c.args.node.now in
    let t = c.args.trunk.now in
    let side = c.in-Some.side.now in
    let there : fm.get m.sides t ≡ Some (side_of side) = search rules in
    let settled : is_settled side.standing ≡ true = search rules in
    let own : is_gone (state_of side.standing) ≡ false → side.trunk ≡ t = search rules in
    let same : side.trunk ≡ t = own (left side.standing settled c.in_default.not-Gone) in
    let P : TrunkId → Option TrunkSide → Type 0 =
    λ u s. PlansBytes m s c.args.bytes.now (λ front. comes m u s front c.args.word) c.come.new.plan c.come.result in
    subst (P t) (sym there) (subst (λ u. P u (Some (side_of side))) same c.come.ensures)
