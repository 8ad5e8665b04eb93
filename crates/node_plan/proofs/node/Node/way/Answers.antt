use Rattle.std.proofs.Common.{◌≡◌, IfSome, ℕ, List, [], Bor, Option, Some, None, true, false, sym, ap, subst, refl, ◌∙◌, rules}
use Rattle.std.specs.Option.{option_copied, option_map}
use Rattle.std.specs.FinMap as fm
use Rattle.std.proofs.lemmas.Option.{same_Some}
use Rattle.erl_names.specs.declared.trunk.TrunkId.{TrunkId}
use Rattle.conn_core.specs.declared.side.Side.{Side}
use Rattle.dist_model.proofs.Sides.{route_from}
use Rattle.dist_model.specs.Node.{route}
use Rattle.dist_model.specs.Sides.{Gone, State, TrunkSide, is_gone, is_up}
use Rattle.node_plan.specs.Seen.{seen}
use Rattle.node_tables.specs.Sides.{sides}
use Rattle.node_tables.specs.Standings.{side_of, state_of}
use Rattle.node_plan.proofs.node.Node.way.Goals as goal

some_none : (o : Option TrunkSide) (s : TrunkSide) → o ≡ None → o ≡ Some s → ⊥
some_none o s h k = cc

peer_is : (found : Option (Bor Side)) (y : List ℕ) (s : TrunkSide) → option_map side_of (option_copied found) ≡ Some s
    → s.peer ≡ y → IfSome found (λ side. side.now.peer ≡ y)
peer_is None y s h e = cc
peer_is (Some side) y s h e = ap (λ o. peer_in o) h ∙ e
  where
    peer_in : Option TrunkSide → List ℕ
    peer_in None = []
    peer_in (Some s) = s.peer

-- a side that is up isn't gone
trunk_is : (found : Option (Bor Side)) (s : TrunkSide) (t : TrunkId) → option_map side_of (option_copied found) ≡ Some s
    → is_up s.state ≡ true → IfSome (option_copied found) (λ side. is_gone (state_of side.standing) ≡ false → side.trunk ≡ t)
    → IfSome found (λ side. side.now.trunk ≡ t)
trunk_is None s t h u k = cc
trunk_is (Some side) s t h u k =
    k (up_not_gone (state_of side.now.standing) (ap (λ (v : TrunkSide). is_up v.state) (same_Some (side_of side.now) s h) ∙ u))
  where
    up_not_gone : (state : State) → is_up state ≡ true → is_gone state ≡ false
    up_not_gone Gone h = cc
    up_not_gone state h = refl

side_is : (found : Option (Bor Side)) (side_at : TrunkId → Option TrunkSide) (t : TrunkId)
    → option_map side_of (option_copied found) ≡ side_at t → IfSome found (λ side. side.now.trunk ≡ t)
    → IfSome found (λ side. side_at side.now.trunk ≡ Some (side_of side.now))
side_is None side_at t h k = tt
side_is (Some side) side_at t h k = ap side_at k ∙ sym h

pub returns-clause-side : goal.returns-clause-side
returns-clause-side c =
    let n = seen c.args.self.now in
    let t = c.in_ok-trunk.trunk.now in
    let up : route n c.args.peer.now ≡ Some t = search rules in
    let f = route_from n c.args.peer.now t up in
    side_is c.get.result (fm.get (sides c.args.self.now.sides)) t c.get.ensures.side
    (trunk_is c.get.result f.found t (c.get.ensures.side ∙ f.there) f.up c.get.ensures.trunk)

pub returns-clause-trunk : goal.returns-clause-trunk
returns-clause-trunk c =
    let n = seen c.args.self.now in
    let t = c.in_ok-trunk.trunk.now in
    let up : route n c.args.peer.now ≡ Some t = search rules in
    let f = route_from n c.args.peer.now t up in
    lead c.get.result t (λ u. route n c.args.peer.now ≡ Some u) up
    (trunk_is c.get.result f.found t (c.get.ensures.side ∙ f.there) f.up c.get.ensures.trunk)
  where
    lead : (found : Option (Bor Side)) (t : TrunkId) (P : TrunkId → Type 0) → P t → IfSome found (λ side. side.now.trunk ≡ t)
        → IfSome found (λ side. P side.now.trunk)
    lead None t P h k = tt
    lead (Some side) t P h k = subst P (sym k) h

pub returns-clause-none : goal.returns-clause-none
returns-clause-none c h =
    let n = seen c.args.self.now in
    let t = c.in_ok-trunk.trunk.now in
    let up : route n c.args.peer.now ≡ Some t = search rules in
    let f = route_from n c.args.peer.now t up in
    absurd (some_none (fm.get (sides c.args.self.now.sides) t) f.found
    (sym c.get.ensures.side ∙ ap (λ o. option_map side_of (option_copied o)) h) f.there)

pub returns-clause-peer : goal.returns-clause-peer
returns-clause-peer c =
    let n = seen c.args.self.now in
    let t = c.in_ok-trunk.trunk.now in
    let up : route n c.args.peer.now ≡ Some t = search rules in
    let f = route_from n c.args.peer.now t up in
    peer_is c.get.result c.args.peer.now f.found (c.get.ensures.side ∙ f.there) f.peer
